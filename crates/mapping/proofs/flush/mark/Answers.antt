use Rattle.std.proofs.Common.{sym}
use Rattle.mapping.proofs.TableSlots.{stands_within, slot_here}
use Rattle.mapping.proofs.DueSlots.{marked-slot, marked-gap}
use Rattle.mapping.proofs.flush.mark.Goals as goal

pub slot_of-requires : goal.slot_of-requires
slot_of-requires g c = rw c.deref.ensures.value c.requires

pub index_mut-slot-requires : goal.index_mut-slot-requires
index_mut-slot-requires g c = rw (← c.deref.ensures.len) (stands_within c.deref.result.now c.in-Ok.at c.args.pid c.in-Ok.ensures)

pub returns-in-Ok : goal.returns-in-Ok
returns-in-Ok g c =
    let slots = c.args.slots.now.items in
    let slot = c.index_mut-slot.result.now in
    let here = slot_here slots c.in-Ok.at c.args.pid slot (rw c.deref.ensures.value at c.in-Ok.ensures) c.index_mut-slot.ensures.value in
    marked-slot slots c.in-Ok.at c.args.pid slot c.logged_then-slot.result c.requires here c.logged_then-slot.ensures

-- no slot has the pid
pub returns-in_default : goal.returns-in_default
returns-in_default g c = sym (marked-gap c.args.slots.now.items c.args.pid c.in_default.field-0 (rw c.deref.ensures.value at c.in_default.ensures))
