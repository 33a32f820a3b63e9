use Rattle.std.proofs.Common.{sym, ap, ◌∙◌}
use Rattle.mapping.specs.Table.{at_home}
use Rattle.mapping.specs.Slots.{listed_place}
use Rattle.mapping.proofs.TableSlots.{stands_within, slot_here, not_home, place-slot, place-gap}
use Rattle.mapping.proofs.table.Table.get.Goals as goal

pub returns-in-Home : goal.returns-in-Home
returns-in-Home g c =
    let slots = c.self.inside.slots.items in
    let here = slot_here slots c.in-Ok.at c.args.pid c.index.result.now (rw c.deref.ensures.value at c.in-Ok.ensures) c.index.ensures in
    rw (← c.self.view_is) (sym (ap at_home (place-slot slots c.in-Ok.at c.args.pid c.index.result.now c.self.invariant.rising here) ∙ ap (λ x. at_home (listed_place x)) c.in-Home.is))

pub returns-in_default : goal.returns-in_default
returns-in_default g c =
    let slots = c.self.inside.slots.items in
    let here = slot_here slots c.in-Ok.at c.args.pid c.index.result.now (rw c.deref.ensures.value at c.in-Ok.ensures) c.index.ensures in
    rw (← c.self.view_is) (sym (ap at_home (place-slot slots c.in-Ok.at c.args.pid c.index.result.now c.self.invariant.rising here) ∙ not_home c.index.result.now.page c.in_default.not-Home))

pub returns-in-Err : goal.returns-in-Err
returns-in-Err g c = rw (← c.self.view_is) (sym (ap at_home (place-gap c.self.inside.slots.items c.in-Err.field-0 c.args.pid (rw c.deref.ensures.value at c.in-Err.ensures))))

pub slot_of-requires : goal.slot_of-requires
slot_of-requires g c = rw c.deref.ensures.value c.self.invariant.rising

pub index-requires : goal.index-requires
index-requires g c = rw (← c.deref.ensures.len) (stands_within c.deref.result.now c.in-Ok.at c.args.pid c.in-Ok.ensures)
