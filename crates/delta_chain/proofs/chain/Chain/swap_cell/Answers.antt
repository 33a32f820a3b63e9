use Rattle.std.specs.Prelude.{IfSome, true, false}
use Rattle.std.proofs.Common.{length, refl, sym, subst, ap, ◌∙◌}
use Rattle.delta_chain.specs.Located.{AreNumbered, AreNewest}
use Rattle.delta_chain.proofs.Exchanging.{exchanged-base, cell-base, said-base, missed-base, missed-cell, said-missed}
use Rattle.delta_chain.proofs.LocatorLemmas.{length-exchanged_in, page-found, keys-found, cell-found, said-found, page-missing, cell-missing, said-missing}
use Rattle.delta_chain.proofs.Overlays.{rising-base}
use Rattle.delta_chain.proofs.RunList.{all_of, still_counted}
use Rattle.delta_chain.proofs.chain.Chain.swap_cell.Goals as goal

pub locate_near-requires-clause-numbered : goal.locate_near-requires-clause-numbered
locate_near-requires-clause-numbered g c = rw c.deref.ensures.value c.self.invariant.1

pub locate_near-requires-clause-list : goal.locate_near-requires-clause-list
locate_near-requires-clause-list g c = rw c.deref.ensures.value c.self.invariant.2

-- ---- a run contains the key

pub swap_cell-requires : goal.swap_cell-requires
swap_cell-requires g c = rw c.deref_mut.ensures.value (rw c.deref.ensures.value at c.in-Some.ensures.place.0)

pub invariant_of-self : goal.invariant_of-self
invariant_of-self g c =
    let is = rw c.deref.ensures.value at c.in-Some.ensures.value in
    let whole = all_of c.self.inside.runs.len c.self.inside.runs.items c.deref_mut.result.now c.swap_cell.new.runs _ c.self.inside.runs.ok.0 c.deref_mut.ensures.value (ap length c.swap_cell.ensures.runs ∙ length-exchanged_in c.deref_mut.result.now c.in-Some.locator _) in (
      still_counted _ _ c.args.key.now c.args.cell.now c.self.inside.entries.fewest c.self.inside.entries.most (page-found c.self.inside.runs.items c.self.inside.base c.self.invariant.0.rising c.args.key.now c.args.cell.now c.in-Some.locator is c.deref_mut.result.now c.swap_cell.new.runs _ c.deref_mut.ensures.value c.swap_cell.ensures.runs whole) c.self.invariant.0,
      subst (λ ks. AreNumbered ks) (sym (keys-found c.self.inside.runs.items c.self.inside.base c.self.invariant.0.rising c.args.key.now c.args.cell.now c.in-Some.locator is c.deref_mut.result.now c.swap_cell.new.runs _ c.deref_mut.ensures.value c.swap_cell.ensures.runs whole)) c.self.invariant.1,
      subst (λ ks. IfSome c.self.inside.list (λ list. AreNewest ks list.items)) (sym (keys-found c.self.inside.runs.items c.self.inside.base c.self.invariant.0.rising c.args.key.now c.args.cell.now c.in-Some.locator is c.deref_mut.result.now c.swap_cell.new.runs _ c.deref_mut.ensures.value c.swap_cell.ensures.runs whole)) c.self.invariant.2,
    )

pub returns-in-Some-clause-cell : goal.returns-in-Some-clause-cell
returns-in-Some-clause-cell g c =
    let is = rw c.deref.ensures.value at c.in-Some.ensures.value in
    rw (← c.self.view_is) (cell-found c.self.inside.runs.items c.self.inside.base c.self.invariant.0.rising c.args.key.now c.args.cell.now c.in-Some.locator is c.deref_mut.result.now c.swap_cell.new.runs c.swap_cell.new.runs c.deref_mut.ensures.value c.swap_cell.ensures.runs refl c.swap_cell.new.cell c.swap_cell.ensures.cell)

pub returns-in-Some-clause-page : goal.returns-in-Some-clause-page
returns-in-Some-clause-page g c =
    let is = rw c.deref.ensures.value at c.in-Some.ensures.value in
    let whole = all_of c.self.inside.runs.len c.self.inside.runs.items c.deref_mut.result.now c.swap_cell.new.runs _ c.self.inside.runs.ok.0 c.deref_mut.ensures.value (ap length c.swap_cell.ensures.runs ∙ length-exchanged_in c.deref_mut.result.now c.in-Some.locator _) in
    rw (← c.self.view_is) (page-found c.self.inside.runs.items c.self.inside.base c.self.invariant.0.rising c.args.key.now c.args.cell.now c.in-Some.locator is c.deref_mut.result.now c.swap_cell.new.runs _ c.deref_mut.ensures.value c.swap_cell.ensures.runs whole)

pub returns-in-Some-clause-found : goal.returns-in-Some-clause-found
returns-in-Some-clause-found g c =
    let is = rw c.deref.ensures.value at c.in-Some.ensures.value in
    rw (← c.self.view_is) (said-found c.self.inside.runs.items c.self.inside.base c.self.invariant.0.rising c.args.key.now c.args.cell.now c.in-Some.locator is c.deref_mut.result.now c.swap_cell.new.runs c.swap_cell.new.runs c.deref_mut.ensures.value c.swap_cell.ensures.runs refl c.swap_cell.result c.swap_cell.ensures.found)

-- ---- the base has it

pub invariant_of-self-in-Some-place_near : goal.invariant_of-self-in-Some-place_near
invariant_of-self-in-Some-place_near g c =
    let is = rw c.deref.ensures.value at c.in-None.ensures.value in
    let rising = rising-base _ c.self.inside.base c.self.invariant.0.rising in
    let place = c.in-Some-place_near.ensures.place in
    (still_counted _ _ c.args.key.now c.args.cell.now c.self.inside.entries.fewest c.self.inside.entries.most (page-missing c.self.inside.runs.items c.self.inside.base c.self.invariant.0.rising c.args.key.now c.args.cell.now is c.swap_cell-in-Some-place_near.new.self (rw c.swap_cell-in-Some-place_near.ensures.base (exchanged-base c.self.inside.base c.in-Some-place_near.at c.args.key.now c.args.cell.now c.swap_cell-in-Some-place_near.new.cell rising place c.swap_cell-in-Some-place_near.ensures.cell))) c.self.invariant.0, c.self.invariant.1, c.self.invariant.2)

pub returns-in-Some-place_near-clause-cell : goal.returns-in-Some-place_near-clause-cell
returns-in-Some-place_near-clause-cell g c =
    let is = rw c.deref.ensures.value at c.in-None.ensures.value in
    let rising = rising-base _ c.self.inside.base c.self.invariant.0.rising in
    let place = c.in-Some-place_near.ensures.place in
    rw (← c.self.view_is) (cell-missing c.self.inside.runs.items c.self.inside.base c.self.invariant.0.rising c.args.key.now c.args.cell.now is c.swap_cell-in-Some-place_near.new.cell (cell-base c.self.inside.base c.in-Some-place_near.at c.args.key.now c.swap_cell-in-Some-place_near.new.cell c.args.cell.now rising place c.swap_cell-in-Some-place_near.ensures.cell))

pub returns-in-Some-place_near-clause-page : goal.returns-in-Some-place_near-clause-page
returns-in-Some-place_near-clause-page g c =
    let is = rw c.deref.ensures.value at c.in-None.ensures.value in
    let rising = rising-base _ c.self.inside.base c.self.invariant.0.rising in
    let place = c.in-Some-place_near.ensures.place in
    rw (← c.self.view_is) (page-missing c.self.inside.runs.items c.self.inside.base c.self.invariant.0.rising c.args.key.now c.args.cell.now is c.swap_cell-in-Some-place_near.new.self (rw c.swap_cell-in-Some-place_near.ensures.base (exchanged-base c.self.inside.base c.in-Some-place_near.at c.args.key.now c.args.cell.now c.swap_cell-in-Some-place_near.new.cell rising place c.swap_cell-in-Some-place_near.ensures.cell)))

pub returns-in-Some-place_near-clause-found : goal.returns-in-Some-place_near-clause-found
returns-in-Some-place_near-clause-found g c =
    let is = rw c.deref.ensures.value at c.in-None.ensures.value in
    let rising = rising-base _ c.self.inside.base c.self.invariant.0.rising in
    let place = c.in-Some-place_near.ensures.place in
    rw (← c.self.view_is) (said-missing c.self.inside.runs.items c.self.inside.base c.self.invariant.0.rising c.args.key.now c.args.cell.now is true (said-base c.self.inside.base c.in-Some-place_near.at c.args.key.now c.swap_cell-in-Some-place_near.new.cell rising place c.swap_cell-in-Some-place_near.ensures.cell))

-- ---- nothing has it

pub returns-in-None-place_near-clause-cell : goal.returns-in-None-place_near-clause-cell
returns-in-None-place_near-clause-cell g c =
    let is = rw c.deref.ensures.value at c.in-None.ensures.value in
    let absent = c.in-None-place_near.ensures.place in
    rw (← c.self.view_is) (cell-missing c.self.inside.runs.items c.self.inside.base c.self.invariant.0.rising c.args.key.now c.args.cell.now is c.args.cell.now (missed-cell c.self.inside.base c.args.key.now c.args.cell.now absent))

pub returns-in-None-place_near-clause-page : goal.returns-in-None-place_near-clause-page
returns-in-None-place_near-clause-page g c =
    let is = rw c.deref.ensures.value at c.in-None.ensures.value in
    let absent = c.in-None-place_near.ensures.place in
    rw (← c.self.view_is) (page-missing c.self.inside.runs.items c.self.inside.base c.self.invariant.0.rising c.args.key.now c.args.cell.now is c.self.inside.base (missed-base c.self.inside.base c.args.key.now c.args.cell.now absent))

pub returns-in-None-place_near-clause-found : goal.returns-in-None-place_near-clause-found
returns-in-None-place_near-clause-found g c =
    let is = rw c.deref.ensures.value at c.in-None.ensures.value in
    let absent = c.in-None-place_near.ensures.place in
    rw (← c.self.view_is) (said-missing c.self.inside.runs.items c.self.inside.base c.self.invariant.0.rising c.args.key.now c.args.cell.now is false (said-missed c.self.inside.base c.args.key.now absent))
