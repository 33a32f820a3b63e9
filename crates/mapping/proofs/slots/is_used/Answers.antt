use Rattle.std.proofs.Common.{◌∙◌, ap, is_some, not, sym}
use Rattle.mapping.specs.Slots.{listed_place}
use Rattle.mapping.proofs.TableSlots.{stands_within, stands_up_to, not_vacant, place-gap, place-slot, slot_here}
use Rattle.mapping.proofs.slots.is_used.Goals as goal
use Rattle.mapping.proofs.slots.is_used.Goals.{in-Vacant, in_default}

pub returns-after-matches : goal.returns-after-matches
returns-after-matches g c =
    let slots = c.args.slots.now in
    let slot = c.index-slots-at.result in
    let here = slot_here slots c.in-Ok.at c.args.pid slot c.in-Ok.ensures c.index-slots-at.is in
    let place = ap is_some (place-slot slots c.in-Ok.at c.args.pid slot c.requires here) ∙ ap (λ slot. is_some (listed_place slot.page)) c.index-slots-at.is in
    elim c.match-matches.branch [
      | in-Vacant w ↦ ap not w.matches-is ∙ sym (place ∙ ap (λ x. is_some (listed_place x)) w.in-Vacant.is)
      | in_default w ↦ ap not w.matches-is ∙ sym (place ∙ not_vacant _ w.in_default.not-Vacant)
    ]

pub returns-in-Err : goal.returns-in-Err
returns-in-Err g c = sym (ap is_some (place-gap c.args.slots.now c.in-Err.field-0 c.args.pid c.in-Err.ensures))

pub bounds-slots-at : goal.bounds-slots-at
bounds-slots-at g c = stands_within c.args.slots.now c.in-Ok.at c.args.pid c.in-Ok.ensures

pub offset_bounds-slots-at : goal.offset_bounds-slots-at
offset_bounds-slots-at g c = stands_up_to c.args.slots.now c.in-Ok.at c.args.pid c.in-Ok.ensures
