use Rattle.std.proofs.Common.{◌≡◌, ◌∙◌, ap, sym, Some, arith}
use Rattle.std.specs.List.{slice_get}
use Rattle.std.proofs.lemmas.Option.{slice_get-get_or}
use Rattle.delta_chain.specs.Located.{keys_of_runs, AreNewest, IsIn}
use Rattle.delta_chain.specs.declared.locators.Locator.{Locator}
use Rattle.delta_chain.proofs.LocatorLemmas.{all-there, length-keyed, rising-listed, listed-here, key-here, listed-nowhere}
use Rattle.delta_chain.proofs.locators.locate_near.Goals as goal

pub search_near-requires : goal.search_near-requires
search_near-requires g c =
    let newest : AreNewest (keys_of_runs c.args.runs.now) c.deref.result.now = rw c.deref.ensures.value (rw c.in-Some.is at c.requires.list) in
    record {
      all = newest.all;
      rising = rising-listed (keys_of_runs c.args.runs.now) c.deref.result.now newest;
    }

pub returns-in-Ok-clause-value : goal.returns-in-Ok-clause-value
returns-in-Ok-clause-value g c =
    let runs = keys_of_runs c.args.runs.now in
    let ls = c.in-Some.locators.items in
    let at = c.in-Ok.at in
    let l = c.index.result.now in
    let newest : AreNewest runs ls = rw c.in-Some.is at c.requires.list in
    let found = rw c.deref.ensures.value at c.in-Ok.ensures in
    let many = length-keyed runs ls in
    let there : slice_get ls at ≡ Some l = slice_get-get_or ls at l (omega (arith, found.0, many)) ∙ ap (λ (x : Locator). Some x) (sym c.index.ensures) in
    listed-here runs ls newest c.args.key.now at l found.2 there

pub returns-in-Ok-clause-place : goal.returns-in-Ok-clause-place
returns-in-Ok-clause-place g c =
    let runs = keys_of_runs c.args.runs.now in
    let ls = c.in-Some.locators.items in
    let at = c.in-Ok.at in
    let l = c.index.result.now in
    let newest : AreNewest runs ls = rw c.in-Some.is at c.requires.list in
    let found = rw c.deref.ensures.value at c.in-Ok.ensures in
    let many = length-keyed runs ls in
    let there : slice_get ls at ≡ Some l = slice_get-get_or ls at l (omega (arith, found.0, many)) ∙ ap (λ (x : Locator). Some x) (sym c.index.ensures) in
    (all-there (IsIn runs) ls at l newest.all there, key-here runs ls c.args.key.now at l found.1 there)

pub returns-in-Err-clause-value : goal.returns-in-Err-clause-value
returns-in-Err-clause-value g c =
    let newest : AreNewest (keys_of_runs c.args.runs.now) c.in-Some.locators.items = rw c.in-Some.is at c.requires.list in
    let missing = rw c.deref.ensures.value at c.in-Err.ensures in
    listed-nowhere (keys_of_runs c.args.runs.now) c.in-Some.locators.items newest c.args.key.now missing.1
