use Rattle.std.proofs.Common.{refl, ap, ◌∙◌, arith}
use Rattle.mapping.specs.Table.{freed}
use Rattle.mapping.proofs.TableSlots.{away_is_some, stands_within, slot_freed}
use Rattle.mapping.proofs.table.Table.free.Goals as goal

pub invariant_of-self : goal.invariant_of-self
invariant_of-self g c =
    let stands = rw c.deref.ensures.value at c.slot_in_use-at.ensures in
    (slot_freed c.self.inside.slots.items c.self.inside.filled c.self.invariant c.slot_in_use-at.result c.args.pid c.index_mut-slot.result.now stands c.index_mut-slot.ensures.value _ c.min-self-inside.result refl refl c.outdated-slot.ensures (omega arith) (omega arith)).0

pub returns : goal.returns
returns g c =
    let stands = rw c.deref.ensures.value at c.slot_in_use-at.ensures in
    (slot_freed c.self.inside.slots.items c.self.inside.filled c.self.invariant c.slot_in_use-at.result c.args.pid c.index_mut-slot.result.now stands c.index_mut-slot.ensures.value _ c.min-self-inside.result refl refl c.outdated-slot.ensures (omega arith) (omega arith)).1
    ∙ ap (λ t. freed t c.args.pid) c.self.view_is

pub slot_in_use-at-requires-clause-rising : goal.slot_in_use-at-requires-clause-rising
slot_in_use-at-requires-clause-rising g c = rw c.deref.ensures.value c.self.invariant.rising

pub slot_in_use-at-requires-clause-in_use : goal.slot_in_use-at-requires-clause-in_use
slot_in_use-at-requires-clause-in_use g c = rw c.deref.ensures.value (away_is_some _ (rw (← c.self.view_is) at c.requires))

pub index_mut-slot-requires : goal.index_mut-slot-requires
index_mut-slot-requires g c = rw (← c.deref.ensures.len) (stands_within c.deref.result.now c.slot_in_use-at.result c.args.pid c.slot_in_use-at.ensures)
