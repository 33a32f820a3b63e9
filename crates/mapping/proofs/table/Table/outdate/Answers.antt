use Rattle.std.proofs.Common.{refl, sym, ap, ◌∙◌}
use Rattle.mapping.specs.Table.{log_outdated}
use Rattle.mapping.proofs.TableSlots.{stands_within, slot_outdated, log_outdated-gap}
use Rattle.mapping.proofs.table.Table.outdate.Goals as goal

pub invariant_of-self : goal.invariant_of-self
invariant_of-self g c =
    let stands = rw c.deref.ensures.value at c.in-Ok.ensures in
    (slot_outdated c.self.inside.slots.items c.self.inside.filled c.self.invariant c.in-Ok.at c.args.pid c.index_mut-slot.result.now stands c.index_mut-slot.ensures.value _ refl refl c.outdated-slot.ensures).0

pub returns-in-Ok : goal.returns-in-Ok
returns-in-Ok g c =
    let stands = rw c.deref.ensures.value at c.in-Ok.ensures in
    (slot_outdated c.self.inside.slots.items c.self.inside.filled c.self.invariant c.in-Ok.at c.args.pid c.index_mut-slot.result.now stands c.index_mut-slot.ensures.value _ refl refl c.outdated-slot.ensures).1
    ∙ ap (λ t. log_outdated t c.args.pid) c.self.view_is

-- of a pid without a slot the log has nothing
pub returns-in_default : goal.returns-in_default
returns-in_default g c = rw (← c.self.view_is) (sym (log_outdated-gap c.self.inside.slots.items c.in_default.field-0 c.args.pid (rw c.deref.ensures.value at c.in_default.ensures)))

pub slot_of-requires : goal.slot_of-requires
slot_of-requires g c = rw c.deref.ensures.value c.self.invariant.rising

pub index_mut-slot-requires : goal.index_mut-slot-requires
index_mut-slot-requires g c = rw (← c.deref.ensures.len) (stands_within c.deref.result.now c.in-Ok.at c.args.pid c.in-Ok.ensures)
