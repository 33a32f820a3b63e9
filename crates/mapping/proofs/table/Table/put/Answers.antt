use Rattle.std.proofs.Common.{Some, refl, ap, ◌∙◌}
use Rattle.mapping.specs.Table.{with_place}
use Rattle.mapping.proofs.TableSlots.{away_is_some, stands_within, page_changed}
use Rattle.mapping.proofs.table.Table.put.Goals as goal

pub invariant_of-self : goal.invariant_of-self
invariant_of-self g c =
    let stands = rw c.deref.ensures.value at c.slot_in_use-at.ensures in
    (page_changed c.self.inside.slots.items c.self.inside.filled c.self.invariant c.slot_in_use-at.result c.args.pid c.index_mut.result.now stands c.index_mut.ensures.value _ (Some c.args.page) refl refl refl).0

pub returns : goal.returns
returns g c =
    let stands = rw c.deref.ensures.value at c.slot_in_use-at.ensures in
    (page_changed c.self.inside.slots.items c.self.inside.filled c.self.invariant c.slot_in_use-at.result c.args.pid c.index_mut.result.now stands c.index_mut.ensures.value _ (Some c.args.page) refl refl refl).1
    ∙ ap (λ t. with_place t c.args.pid (Some c.args.page)) c.self.view_is

pub slot_in_use-at-requires-clause-rising : goal.slot_in_use-at-requires-clause-rising
slot_in_use-at-requires-clause-rising g c = rw c.deref.ensures.value c.self.invariant.rising

pub slot_in_use-at-requires-clause-in_use : goal.slot_in_use-at-requires-clause-in_use
slot_in_use-at-requires-clause-in_use g c = rw c.deref.ensures.value (away_is_some _ (rw (← c.self.view_is) at c.requires))

pub index_mut-requires : goal.index_mut-requires
index_mut-requires g c = rw (← c.deref.ensures.len) (stands_within c.deref.result.now c.slot_in_use-at.result c.args.pid c.slot_in_use-at.ensures)
