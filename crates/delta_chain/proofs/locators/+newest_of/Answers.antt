use Rattle.std.proofs.Common.{rules, ◌<◌, ◌∷◌, [], length, ap, arith}
use Rattle.std.proofs.lemmas.List.{length-append}
use Rattle.delta_chain.proofs.LocatorLemmas.{numbered-older, number_of-older, place_of-run, newest-here, in-here, newest-below, in-below-any}
use Rattle.delta_chain.proofs.locators.+newest_of.Goals as goal

pub new-requires-clause-run : goal.new-requires-clause-run
new-requires-clause-run g t c =
    number_of-older c.args.runs.now c.in_ok-newest.older.now c.in_ok-newest.newest.now c.in_ok-newest.ensures.cases.0 c.len-rising.ensures.rising c.requires

pub new-requires-clause-at : goal.new-requires-clause-at
new-requires-clause-at g t c =
    place_of-run c.args.runs.now c.in_ok-newest.older.now c.in_ok-newest.newest.now c.in_ok-newest.ensures.cases.0 c.len-rising.ensures.rising c.in-Some.at c.requires c.in-Some.ensures.within

pub returns-in-Some-clause-value : goal.returns-in-Some-clause-value
returns-in-Some-clause-value g t c =
    newest-here c.args.runs.now c.in_ok-newest.older.now c.in_ok-newest.newest.now c.in_ok-newest.ensures.cases.0 c.len-rising.ensures.rising c.args.key.now c.in-Some.at c.new.result c.in-Some.ensures.place c.new.ensures.locator

pub returns-in-Some-clause-place : goal.returns-in-Some-clause-place
returns-in-Some-clause-place g t c =
    in-here c.args.runs.now c.in_ok-newest.older.now c.in_ok-newest.newest.now c.in_ok-newest.ensures.cases.0 c.len-rising.ensures.rising c.args.key.now c.in-Some.at c.new.result c.in-Some.ensures.place c.new.ensures.locator c.new.ensures.bytes

pub newest_of-requires : goal.newest_of-requires
newest_of-requires g t c κs within =
    let older = c.in_ok-newest.older.now in
    let newest = c.in_ok-newest.newest.now in
    let is = c.in_ok-newest.ensures.cases.0 in
    let count = ap length is in
    let long = length-append older (newest ∷ []) in
    let falls : length older < t = omega (arith, count, long, c.decreases) in
    (falls, (search rules, (search rules, numbered-older c.args.runs.now older newest is c.len-rising.ensures.rising c.requires)))

pub returns-in-None-clause-value : goal.returns-in-None-clause-value
returns-in-None-clause-value g t c =
    newest-below c.args.runs.now c.in_ok-newest.older.now c.in_ok-newest.newest.now c.in_ok-newest.ensures.cases.0 c.len-rising.ensures.rising c.args.key.now c.newest_of.result c.in-None.ensures.place c.newest_of.ensures.value

pub returns-in-None-clause-place : goal.returns-in-None-clause-place
returns-in-None-clause-place g t c =
    in-below-any c.args.runs.now c.in_ok-newest.older.now c.in_ok-newest.newest.now c.in_ok-newest.ensures.cases.0 c.len-rising.ensures.rising c.args.key.now c.newest_of.result c.newest_of.ensures.place
