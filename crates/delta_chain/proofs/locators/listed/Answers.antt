use Rattle.std.proofs.Common.{◌≡◌, Some, arith, get_or}
use Rattle.std.specs.List.{slice_get}
use Rattle.std.proofs.lemmas.Option.{slice_get-get_or}
use Rattle.delta_chain.specs.Located.{keys_of_runs, IsIn}
use Rattle.delta_chain.specs.declared.locators.Locator.{Locator}
use Rattle.delta_chain.proofs.LocatorLemmas.{all-there, length-keyed, rising-listed, listed-here, key-here, listed-nowhere}
use Rattle.delta_chain.proofs.locators.listed.Goals as goal

abbrev first : Locator
first = record { word = 0; run = 0; at = 0 }

pub search-requires-clause-rising : goal.search-requires-clause-rising
search-requires-clause-rising g c = rising-listed (keys_of_runs c.args.runs.now) c.args.locators.now c.requires

pub bounds-locators-at : goal.bounds-locators-at
bounds-locators-at g c =
    let many = length-keyed (keys_of_runs c.args.runs.now) c.args.locators.now in
    omega (arith, c.in-Ok.ensures.0, many)

pub returns-in-Ok-clause-value : goal.returns-in-Ok-clause-value
returns-in-Ok-clause-value g c =
    let runs = keys_of_runs c.args.runs.now in
    let ls = c.args.locators.now in
    let at = c.in-Ok.at in
    let many = length-keyed runs ls in
    let there : slice_get ls at ≡ Some (get_or ls at first) = slice_get-get_or ls at first (omega (arith, c.in-Ok.ensures.0, many)) in
    listed-here runs ls c.requires c.args.key.now at (get_or ls at first) c.in-Ok.ensures.2 there

pub returns-in-Ok-clause-place : goal.returns-in-Ok-clause-place
returns-in-Ok-clause-place g c =
    let runs = keys_of_runs c.args.runs.now in
    let ls = c.args.locators.now in
    let at = c.in-Ok.at in
    let many = length-keyed runs ls in
    let there : slice_get ls at ≡ Some (get_or ls at first) = slice_get-get_or ls at first (omega (arith, c.in-Ok.ensures.0, many)) in
    (all-there (IsIn runs) ls at (get_or ls at first) c.requires.all there, key-here runs ls c.args.key.now at (get_or ls at first) c.in-Ok.ensures.1 there)

pub returns-in-Err-clause-value : goal.returns-in-Err-clause-value
returns-in-Err-clause-value g c = listed-nowhere (keys_of_runs c.args.runs.now) c.args.locators.now c.requires c.args.key.now c.in-Err.ensures.1
