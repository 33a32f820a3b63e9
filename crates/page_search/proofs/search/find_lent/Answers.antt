use Rattle.std.proofs.Common.{refl, ◌∙◌, arith}
use Rattle.page_search.specs.Costs.{most_among, fewest_among}
use Rattle.page_search.proofs.CostLemmas.{least_here, most_here, most_left, least_left}
use Rattle.page_search.proofs.PlaceLemmas.{is_there-place, within-place, value_at-there, value_at-goes_to}
use Rattle.page_search.proofs.search.find_lent.Goals as goal

pub change-requires : goal.change-requires
change-requires g c = within-place c.args.key.now c.in-Some.run'.now c.in-Ok.at c.in-Ok.ensures.place

pub returns-in-Ok-clause-value : goal.returns-in-Ok-clause-value
returns-in-Ok-clause-value g c =
    let said = value_at-there c.args.key.now _ c.in-Some.run'.now c.in-Ok.at c.place.ensures.rising c.in-Ok.ensures.place c.change.ensures in
    let held = rw c.in-Some.ensures at c.loop-run.invariant.value in
    rw (← held, said) refl

pub returns-in-Ok-clause-least : goal.returns-in-Ok-clause-least
returns-in-Ok-clause-least g c =
    let named = is_there-place c.args.key.now c.in-Some.run'.now c.in-Ok.at c.in-Ok.ensures.place in
    let here = least_here fewest_among c.args.key.now c.in-Some.run'.now c.in-Some.below.runs c.in-Some.below.base _ _ _ named c.in-Ok.ensures.least in
    let least = rw c.in-Some.ensures at c.loop-run.invariant.least in
    omega (arith, here, least)

pub returns-in-Ok-clause-cost : goal.returns-in-Ok-clause-cost
returns-in-Ok-clause-cost g c =
    let named = is_there-place c.args.key.now c.in-Some.run'.now c.in-Ok.at c.in-Ok.ensures.place in
    let cost = rw c.in-Some.ensures at c.loop-run.invariant.cost in
    most_here most_among c.args.key.now c.in-Some.run'.now c.in-Some.below.runs c.in-Some.below.base c.loop-run.probes c.place.new.probes _ named c.place.ensures.cost cost

pub returns-in-Ok-clause-kept : goal.returns-in-Ok-clause-kept
returns-in-Ok-clause-kept g c = omega (arith, c.loop-run.invariant.kept, c.place.ensures.kept)

pub loop-run-preserved : goal.loop-run-preserved
loop-run-preserved g c =
    let said = value_at-goes_to c.args.key.now c.in-Some.run'.now c.in-Err.field-0 c.place.ensures.rising c.in-Err.ensures.place in
    let held = rw c.in-Some.ensures at c.loop-run.invariant.value in
    let cost = rw c.in-Some.ensures at c.loop-run.invariant.cost in
    let least = rw c.in-Some.ensures at c.loop-run.invariant.least in
    record {
      value = rw said at held;
      cost = most_left most_among c.args.key.now c.in-Some.run'.now c.in-Some.below.runs c.in-Some.below.base c.loop-run.probes c.place.new.probes _ said c.place.ensures.cost cost;
      least = least_left fewest_among c.args.key.now c.in-Some.run'.now c.in-Some.below.runs c.in-Some.below.base c.loop-run.probes c.place.new.probes _ _ said c.in-Err.ensures.least least;
      kept = omega (arith, c.loop-run.invariant.kept, c.place.ensures.kept);
    }

pub returns-clause-value : goal.returns-clause-value
returns-clause-value g c =
    let runs = c.in_default.ensures in
    let base = c.base.ensures in
    let value = rw (runs, ← base) at c.loop-run.invariant.value in
    c.find_in_base.ensures.value ∙ value

pub returns-clause-kept : goal.returns-clause-kept
returns-clause-kept g c = omega (arith, c.loop-run.invariant.kept, c.find_in_base.ensures.kept)

pub returns-clause-cost : goal.returns-clause-cost
returns-clause-cost g c =
    let runs = c.in_default.ensures in
    let base = c.base.ensures in
    let cost = rw (runs, ← base) at c.loop-run.invariant.cost in
    omega (arith, cost, c.find_in_base.ensures.cost)

pub returns-clause-least : goal.returns-clause-least
returns-clause-least g c =
    let runs = c.in_default.ensures in
    let base = c.base.ensures in
    let least = rw (runs, ← base) at c.loop-run.invariant.least in
    omega (arith, least, c.find_in_base.ensures.least)
