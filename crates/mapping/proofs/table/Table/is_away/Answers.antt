use Rattle.std.proofs.Common.{refl, sym, ap, ◌∙◌}
use mathlib.Core.Bool.{false≢true}
use Rattle.mapping.specs.Slots.{listed_place}
use Rattle.mapping.proofs.TableSlots.{stands_within, slot_here, not_away, place-slot, place-gap}
use Rattle.mapping.proofs.table.Table.is_away.Goals as goal

pub returns-in-Away : goal.returns-in-Away
returns-in-Away g c =
    let slots = c.self.inside.slots.items in
    let here = slot_here slots c.in-Ok.at c.args.pid c.index.result.now (rw c.deref.ensures.value at c.in-Ok.ensures) c.index.ensures in
    let place = place-slot slots c.in-Ok.at c.args.pid c.index.result.now c.self.invariant.rising here ∙ ap listed_place c.in-Away.is in
    rw (← c.self.view_is) (λ h. place, λ e. refl)

pub returns-in_default : goal.returns-in_default
returns-in_default g c =
    let slots = c.self.inside.slots.items in
    let slot = c.index.result.now in
    let here = slot_here slots c.in-Ok.at c.args.pid slot (rw c.deref.ensures.value at c.in-Ok.ensures) c.index.ensures in
    let place = place-slot slots c.in-Ok.at c.args.pid slot c.self.invariant.rising here in
    rw (← c.self.view_is) (λ h. absurd (false≢true h), λ e. absurd (not_away slot.page c.in_default.not-Away (sym place ∙ e)))

pub returns-in-Err : goal.returns-in-Err
returns-in-Err g c =
    let none = place-gap c.self.inside.slots.items c.in-Err.field-0 c.args.pid (rw c.deref.ensures.value at c.in-Err.ensures) in
    rw (← c.self.view_is) (λ h. absurd (false≢true h), λ e. let x = sym none ∙ e in absurd (cc))

pub slot_of-requires : goal.slot_of-requires
slot_of-requires g c = rw c.deref.ensures.value c.self.invariant.rising

pub index-requires : goal.index-requires
index-requires g c = rw (← c.deref.ensures.len) (stands_within c.deref.result.now c.in-Ok.at c.args.pid c.in-Ok.ensures)
