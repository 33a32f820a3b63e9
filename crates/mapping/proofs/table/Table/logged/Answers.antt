use Rattle.std.proofs.Common.{sym}
use Rattle.mapping.proofs.TableSlots.{stands_within, slot_here, log-slot, log-gap}
use Rattle.mapping.proofs.table.Table.logged.Goals as goal

pub returns-in-Ok : goal.returns-in-Ok
returns-in-Ok g c =
    let slots = c.self.inside.slots.items in
    let here = slot_here slots c.in-Ok.at c.args.pid c.index.result.now (rw c.deref.ensures.value at c.in-Ok.ensures) c.index.ensures in
    rw (← c.self.view_is) (sym (log-slot slots c.in-Ok.at c.args.pid c.index.result.now c.self.invariant.rising here))

pub returns-in-Err : goal.returns-in-Err
returns-in-Err g c = rw (← c.self.view_is) (sym (log-gap c.self.inside.slots.items c.in-Err.field-0 c.args.pid (rw c.deref.ensures.value at c.in-Err.ensures)))

pub slot_of-requires : goal.slot_of-requires
slot_of-requires g c = rw c.deref.ensures.value c.self.invariant.rising

pub index-requires : goal.index-requires
index-requires g c = rw (← c.deref.ensures.len) (stands_within c.deref.result.now c.in-Ok.at c.args.pid c.in-Ok.ensures)
