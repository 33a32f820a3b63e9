use Rattle.std.proofs.Common.{None, refl, sym, ap, ◌∙◌}
use Rattle.mapping.specs.Table.{at_home, with_place}
use Rattle.mapping.specs.Slots.{listed_place}
use Rattle.mapping.proofs.TableSlots.{home_is_some, stands_within, none_is_not_some, not_home, slot_here, place-slot, page_changed}
use Rattle.mapping.proofs.table.Table.take.Goals as goal

-- the page in the table is a page
pub unreachable-requires : goal.unreachable-requires
unreachable-requires g c =
    let slots = c.self.inside.slots.items in
    let slot = c.index_mut.result.now in
    let here = slot_here slots c.slot_in_use-at.result c.args.pid slot (rw c.deref.ensures.value at c.slot_in_use-at.ensures) c.index_mut.ensures.value in
    let home = ap at_home (place-slot slots c.slot_in_use-at.result c.args.pid slot c.self.invariant.rising here) in
    none_is_not_some _ (home ∙ ap (λ x. at_home (listed_place x)) (sym c.replace.ensures.value) ∙ not_home c.replace.result c.in_default.not-Home) (rw (← c.self.view_is) at c.requires)

pub invariant_of-self : goal.invariant_of-self
invariant_of-self g c =
    let stands = rw c.deref.ensures.value at c.slot_in_use-at.ensures in
    (page_changed c.self.inside.slots.items c.self.inside.filled c.self.invariant c.slot_in_use-at.result c.args.pid c.index_mut.result.now stands c.index_mut.ensures.value _ None refl (ap listed_place c.replace.ensures.after) refl).0

pub returns-clause-page : goal.returns-clause-page
returns-clause-page g c =
    let slots = c.self.inside.slots.items in
    let slot = c.index_mut.result.now in
    let here = slot_here slots c.slot_in_use-at.result c.args.pid slot (rw c.deref.ensures.value at c.slot_in_use-at.ensures) c.index_mut.ensures.value in
    let home = ap at_home (place-slot slots c.slot_in_use-at.result c.args.pid slot c.self.invariant.rising here) in
    rw (← c.self.view_is) (home ∙ ap (λ x. at_home (listed_place x)) (sym c.replace.ensures.value ∙ c.in-Home.is))

pub returns-clause-table : goal.returns-clause-table
returns-clause-table g c =
    let stands = rw c.deref.ensures.value at c.slot_in_use-at.ensures in
    (page_changed c.self.inside.slots.items c.self.inside.filled c.self.invariant c.slot_in_use-at.result c.args.pid c.index_mut.result.now stands c.index_mut.ensures.value _ None refl (ap listed_place c.replace.ensures.after) refl).1
    ∙ ap (λ t. with_place t c.args.pid None) c.self.view_is

pub slot_in_use-at-requires-clause-rising : goal.slot_in_use-at-requires-clause-rising
slot_in_use-at-requires-clause-rising g c = rw c.deref.ensures.value c.self.invariant.rising

pub slot_in_use-at-requires-clause-in_use : goal.slot_in_use-at-requires-clause-in_use
slot_in_use-at-requires-clause-in_use g c = rw c.deref.ensures.value (home_is_some _ (rw (← c.self.view_is) at c.requires))

pub index_mut-requires : goal.index_mut-requires
index_mut-requires g c = rw (← c.deref.ensures.len) (stands_within c.deref.result.now c.slot_in_use-at.result c.args.pid c.slot_in_use-at.ensures)
