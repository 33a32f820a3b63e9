use Rattle.std.proofs.Common.{◌≡◌, Some, sym, ap, ◌∙◌, arith, get_or}
use Rattle.std.specs.List.{slice_get}
use Rattle.std.proofs.lemmas.Option.{slice_get-get_or}
use Rattle.delta_chain.specs.Lent.{pairs_lent}
use Rattle.delta_chain.specs.Located.{keys_of_runs, changes_of}
use Rattle.delta_chain.specs.declared.locators.Locator.{Locator}
use Rattle.delta_chain.proofs.Lending.{pairs_lent-push}
use Rattle.delta_chain.proofs.LocatorLemmas.{there_in, key_change, item_change, length-changes_of, made_all}
use Rattle.delta_chain.proofs.Places.{push_pair}
use Rattle.delta_chain.proofs.locators.lent_changes.Goals as goal

abbrev first : Locator
first = record { word = 0; run = 0; at = 0 }

pub loop-at-preserved : goal.loop-at-preserved
loop-at-preserved g c =
    let runs = c.args.runs.now in
    let ls = c.args.locators.now in
    let at = c.loop-at.at in
    let l : Locator = get_or ls at first in
    let there : slice_get ls at ≡ Some l = slice_get-get_or ls at first c.loop-at-test.true in
    let key = key_change runs ls at l there ∙ ap Some (sym c.key.ensures) in
    let item = item_change runs ls at l there ∙ ap Some (sym c.item.ensures) in
    record {
      made = rw (c.push_reserved.ensures.items, pairs_lent-push) (push_pair (pairs_lent c.loop-at.lent.items) (changes_of runs ls) (changes_of runs ls) at c.key.result.now c.item.result.now key item c.loop-at.invariant.made);
      count = omega (arith, c.push_reserved.ensures.len);
      room = rw c.push_reserved.ensures.capacity c.loop-at.invariant.room;
    }

pub key-requires : goal.key-requires
key-requires g c = there_in (keys_of_runs c.args.runs.now) c.args.locators.now c.loop-at.at first c.loop-at-test.true c.requires

pub item-requires : goal.item-requires
item-requires g c = there_in (keys_of_runs c.args.runs.now) c.args.locators.now c.loop-at.at first c.loop-at-test.true c.requires

pub returns : goal.returns
returns g c =
    let runs = c.args.runs.now in
    let ls = c.args.locators.now in
    let many = length-changes_of runs ls in
    c.of_list.ensures ∙ made_all (pairs_lent c.loop-at.lent.items) (changes_of runs ls) c.loop-at.at (omega (arith, c.loop-at-test.false, many)) c.loop-at.invariant.made
