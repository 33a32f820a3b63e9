use Rattle.std.proofs.Common.{◌≡◌, length, ap, ◌∙◌, arith}
use Rattle.std.proofs.lemmas.List.FromFn.{length-map-range_with_len}
use Rattle.mapping.specs.FreshPids.{unused}
use Rattle.mapping.specs.Table.{pids_in_use}
use Rattle.mapping.specs.Slots.{table_of}
use Rattle.mapping.proofs.FreshLemmas.{rising-in_use, slots_kept, slots_filled}
use Rattle.mapping.proofs.table.Table.fresh.Goals as goal

pub index-requires : goal.index-requires
index-requires g c =
    let pids = rw c.deref.ensures.value at c.in_ok-pids.ensures in
    let counted : length c.in_ok-pids.pids.items ≡ c.args.count = ap length pids ∙ length-map-range_with_len (unused (pids_in_use (table_of c.self.inside.slots.items))) 0 c.args.count in
    omega (arith, c.in_ok-pids.pids.ok)

pub invariant_of-self-then-count-gt0 : goal.invariant_of-self-then-count-gt0
invariant_of-self-then-count-gt0 g c =
    let slots = c.self.inside.slots.items in
    let pids = c.in_ok-pids.pids.items in
    slots_filled slots c.occupy_all.new.slots.items c.self.inside.filled c.args.count pids c.self.invariant c.in_ok-occupy_all.ensures.rising
    (rw c.deref-2.ensures.value at c.in_ok-occupy_all.ensures.ok) (rw c.deref.ensures.value at c.in_ok-pids.ensures) c.if-count-gt0.true c.index.result.now c.saturating_add-self-inside.result c.index.ensures (omega arith)

pub invariant_of-self-else-count-gt0 : goal.invariant_of-self-else-count-gt0
invariant_of-self-else-count-gt0 g c =
    slots_kept c.self.inside.slots.items c.occupy_all.new.slots.items c.self.inside.filled c.args.count c.in_ok-pids.pids.items c.self.invariant c.in_ok-occupy_all.ensures.rising
    (rw c.deref-2.ensures.value at c.in_ok-occupy_all.ensures.ok)

pub returns-in_err-pids-clause-rising : goal.returns-in_err-pids-clause-rising
returns-in_err-pids-clause-rising g c = rw (← c.self.view_is) (rising-in_use c.self.inside.slots.items c.self.invariant.rising)

pub returns-in_err-occupy_all-clause-rising : goal.returns-in_err-occupy_all-clause-rising
returns-in_err-occupy_all-clause-rising g c = rw (← c.self.view_is) (rising-in_use c.self.inside.slots.items c.self.invariant.rising)

pub returns-clause-rising : goal.returns-clause-rising
returns-clause-rising g c = rw (← c.self.view_is) (rising-in_use c.self.inside.slots.items c.self.invariant.rising)
