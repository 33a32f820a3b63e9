use Rattle.std.proofs.Common.{arith}
use Rattle.std.specs.Option.{option_copied}
use Rattle.std.proofs.lemmas.Map.Entries.{length-keys_of}
use Rattle.page_search.proofs.NearestLemmas.{base-none, base-at, run-none, run-alone, run-under, run-here}
use Rattle.page_search.proofs.WalkLemmas.{least_of_base, least_with_run, most_of_base, most_with_run}
use Rattle.page_search.proofs.nearest.+nearest_named.Goals.{in_default-under-via-in-Some-under+else-is_nearer, in_default-under-via-in_default-under}
use Rattle.page_search.proofs.nearest.+nearest_named.Goals as goal

pub key-requires : goal.key-requires
key-requires g t c = rw length-keys_of at c.in_ok-at.ensures.place.within

pub cell-requires : goal.cell-requires
cell-requires g t c = rw length-keys_of at c.in_ok-at.ensures.place.within

pub key_ref-here-requires : goal.key_ref-here-requires
key_ref-here-requires g t c = rw length-keys_of at c.in-Some-nearest_place.ensures.place.within

pub change-requires : goal.change-requires
change-requires g t c = rw length-keys_of at c.in-Some-nearest_place.ensures.place.within

pub returns-in_err-at-clause-value : goal.returns-in_err-at-clause-value
returns-in_err-at-clause-value g t c =
    let none = c.from_residual.ensures in
    let chain = c.in_default.ensures in
    let base = c.base-base.ensures in
    rw (none, chain, ← base) (base-none c.args.side c.args.key.now c.base-base.result.now c.in_err-at.ensures.place)

pub returns-in_default-clause-value : goal.returns-in_default-clause-value
returns-in_default-clause-value g t c =
    let chain = c.in_default.ensures in
    let base = c.base-base.ensures in
    rw (chain, ← base, c.new.ensures) (base-at c.args.side c.args.key.now c.base-base.result.now _ _ _ c.nearest_place.ensures.rising c.in_ok-at.ensures.place c.key.ensures c.cell.ensures)

pub returns-in_default-nearest_place-clause-value :
    goal.returns-in_default-nearest_place-clause-value
returns-in_default-nearest_place-clause-value g t c =
    let chain = c.in-Some.ensures in
    rw chain (run-none c.args.side c.args.key.now c.in-Some.run'.now c.in-Some.below.runs c.in-Some.below.base _ c.in_default-nearest_place.ensures.place c.nearest_named-under.ensures.value)

pub returns-in-Some-under-clause-value : goal.returns-in-Some-under-clause-value
returns-in-Some-under-clause-value g t c =
    let chain = c.in-Some.ensures in
    rw chain (run-under c.args.side c.args.key.now c.in-Some.run'.now c.in-Some.below.runs c.in-Some.below.base _ _ c.in-Some-nearest_place.ensures.place c.key_ref-here.ensures (c.in-Some-under.other.0, option_copied c.in-Some-under.other.1) c.in-Some-under.ensures.value c.if-is_nearer.ensures.nearer)

pub returns-in_default-under-clause-value : goal.returns-in_default-under-clause-value
returns-in_default-under-clause-value g t c =
    let chain = c.in-Some.ensures in
    rw chain (elim c.in_default-under.branch [
      | in_default-under-via-in-Some-under+else-is_nearer w ↦ run-here c.args.side c.args.key.now c.in-Some.run'.now c.in-Some.below.runs c.in-Some.below.base _ _ c.in-Some-nearest_place.ensures.place c.key_ref-here.ensures _ c.nearest_place-2.ensures.rising c.change.ensures (w.in-Some-under.other.0, option_copied w.in-Some-under.other.1) w.in-Some-under.ensures.value w.if-is_nearer.ensures.nearer
      | in_default-under-via-in_default-under w ↦ run-alone c.args.side c.args.key.now c.in-Some.run'.now c.in-Some.below.runs c.in-Some.below.base _ _ c.in-Some-nearest_place.ensures.place c.key_ref-here.ensures _ c.nearest_place-2.ensures.rising c.change.ensures w.in_default-under.ensures.value
    ])

-- ---- the base alone

pub returns-in_err-at-clause-cost : goal.returns-in_err-at-clause-cost
returns-in_err-at-clause-cost g t c =
    let chain = c.in_default.ensures in
    let base = c.base-base.ensures in
    rw (chain, ← base) (most_of_base c.base-base.result.now _ _ c.in_err-at.ensures.cost)

pub returns-in_err-at-clause-least : goal.returns-in_err-at-clause-least
returns-in_err-at-clause-least g t c =
    let chain = c.in_default.ensures in
    let base = c.base-base.ensures in
    rw (chain, ← base) (least_of_base c.args.key.now c.base-base.result.now _ _ _ c.in_err-at.ensures.least)

pub returns-in_err-at-clause-kept : goal.returns-in_err-at-clause-kept
returns-in_err-at-clause-kept g t c = c.in_err-at.ensures.kept

pub returns-in_default-clause-cost : goal.returns-in_default-clause-cost
returns-in_default-clause-cost g t c =
    let chain = c.in_default.ensures in
    let base = c.base-base.ensures in
    rw (chain, ← base) (most_of_base c.base-base.result.now _ _ c.in_ok-at.ensures.cost)

pub returns-in_default-clause-least : goal.returns-in_default-clause-least
returns-in_default-clause-least g t c =
    let chain = c.in_default.ensures in
    let base = c.base-base.ensures in
    rw (chain, ← base) (least_of_base c.args.key.now c.base-base.result.now _ _ _ c.in_ok-at.ensures.least)

pub returns-in_default-clause-kept : goal.returns-in_default-clause-kept
returns-in_default-clause-kept g t c = c.in_ok-at.ensures.kept

-- ---- a run that contains no key on this side

pub returns-in_default-nearest_place-clause-cost : goal.returns-in_default-nearest_place-clause-cost
returns-in_default-nearest_place-clause-cost g t c =
    let chain = c.in-Some.ensures in
    rw chain (most_with_run c.in-Some.run'.now c.in-Some.below.runs c.in-Some.below.base c.args.probes.now c.nearest_named-under.new.probes c.nearest_place-2.new.probes c.nearest_place-2.new.probes c.nearest_named-under.ensures.cost c.in_default-nearest_place.ensures.cost (omega arith))

pub returns-in_default-nearest_place-clause-least : goal.returns-in_default-nearest_place-clause-least
returns-in_default-nearest_place-clause-least g t c =
    let chain = c.in-Some.ensures in
    rw chain (least_with_run c.args.key.now c.in-Some.run'.now c.in-Some.below.runs c.in-Some.below.base c.args.probes.now c.nearest_named-under.new.probes c.nearest_place-2.new.probes _ c.nearest_named-under.ensures.least c.in_default-nearest_place.ensures.least)

pub returns-in_default-nearest_place-clause-kept : goal.returns-in_default-nearest_place-clause-kept
returns-in_default-nearest_place-clause-kept g t c = omega (arith, c.nearest_named-under.ensures.kept, c.in_default-nearest_place.ensures.kept)

-- ---- a run that contains a nearer key, and the lists below it

pub returns-in-Some-under-clause-cost : goal.returns-in-Some-under-clause-cost
returns-in-Some-under-clause-cost g t c =
    let chain = c.in-Some.ensures in
    rw chain (most_with_run c.in-Some.run'.now c.in-Some.below.runs c.in-Some.below.base c.args.probes.now c.nearest_named-under.new.probes c.nearest_place-2.new.probes c.is_nearer.new.probes c.nearest_named-under.ensures.cost c.in-Some-nearest_place.ensures.cost c.if-is_nearer.ensures.cost)

pub returns-in-Some-under-clause-least : goal.returns-in-Some-under-clause-least
returns-in-Some-under-clause-least g t c =
    let chain = c.in-Some.ensures in
    let searched = least_with_run c.args.key.now c.in-Some.run'.now c.in-Some.below.runs c.in-Some.below.base c.args.probes.now c.nearest_named-under.new.probes c.nearest_place-2.new.probes _ c.nearest_named-under.ensures.least c.in-Some-nearest_place.ensures.least in
    rw chain (omega (arith, searched, c.if-is_nearer.ensures.kept))

pub returns-in-Some-under-clause-kept : goal.returns-in-Some-under-clause-kept
returns-in-Some-under-clause-kept g t c = omega (arith, c.nearest_named-under.ensures.kept, c.in-Some-nearest_place.ensures.kept, c.if-is_nearer.ensures.kept)

pub returns-in_default-under-clause-cost : goal.returns-in_default-under-clause-cost
returns-in_default-under-clause-cost g t c =
    let chain = c.in-Some.ensures in
    rw chain (most_with_run c.in-Some.run'.now c.in-Some.below.runs c.in-Some.below.base c.args.probes.now c.nearest_named-under.new.probes c.nearest_place-2.new.probes c.in_default-under.probes c.nearest_named-under.ensures.cost c.in-Some-nearest_place.ensures.cost (elim c.in_default-under.branch [
      | in_default-under-via-in-Some-under+else-is_nearer w ↦ omega (arith, w.if-is_nearer.ensures.cost, w.probes-is)
      | in_default-under-via-in_default-under w ↦ omega (arith, w.probes-is)
    ]))

pub returns-in_default-under-clause-least : goal.returns-in_default-under-clause-least
returns-in_default-under-clause-least g t c =
    let chain = c.in-Some.ensures in
    let searched = least_with_run c.args.key.now c.in-Some.run'.now c.in-Some.below.runs c.in-Some.below.base c.args.probes.now c.nearest_named-under.new.probes c.nearest_place-2.new.probes _ c.nearest_named-under.ensures.least c.in-Some-nearest_place.ensures.least in
    rw chain (elim c.in_default-under.branch [
      | in_default-under-via-in-Some-under+else-is_nearer w ↦ omega (arith, searched, w.if-is_nearer.ensures.kept, w.probes-is)
      | in_default-under-via-in_default-under w ↦ omega (arith, searched, w.probes-is)
    ])

pub returns-in_default-under-clause-kept : goal.returns-in_default-under-clause-kept
returns-in_default-under-clause-kept g t c =
    let searched = c.in-Some-nearest_place.ensures.kept in
    elim c.in_default-under.branch [
      | in_default-under-via-in-Some-under+else-is_nearer w ↦ omega (arith, c.nearest_named-under.ensures.kept, searched, w.if-is_nearer.ensures.kept, w.probes-is)
      | in_default-under-via-in_default-under w ↦ omega (arith, c.nearest_named-under.ensures.kept, searched, w.probes-is)
    ]
