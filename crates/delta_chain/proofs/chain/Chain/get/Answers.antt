use Rattle.std.proofs.Common.{sym, ◌∙◌}
use Rattle.delta_chain.proofs.LocatorLemmas.{held-found, held-missing}
use Rattle.delta_chain.proofs.chain.Chain.get.Goals as goal

pub locate-requires-clause-numbered : goal.locate-requires-clause-numbered
locate-requires-clause-numbered g c = rw c.deref.ensures.value c.self.invariant.1

pub locate-requires-clause-list : goal.locate-requires-clause-list
locate-requires-clause-list g c = rw c.deref.ensures.value c.self.invariant.2

pub change-requires : goal.change-requires
change-requires g c = rw c.deref-in-Some.ensures.value (rw c.deref.ensures.value at c.in-Some.ensures.place.0)

pub returns-in-Some : goal.returns-in-Some
returns-in-Some g c =
    let is = rw (c.deref.ensures.value, c.new-key.ensures) at c.in-Some.ensures.value in
    let change = rw c.deref-in-Some.ensures.value at c.change.ensures in
    rw (← c.self.view_is) (change ∙ sym (held-found c.self.inside.runs.items c.self.inside.base c.self.invariant.0.rising c.args.key.now c.in-Some.locator is))

pub returns-in-None : goal.returns-in-None
returns-in-None g c =
    let is = rw (c.deref.ensures.value, c.new-key.ensures) at c.in-None.ensures.value in
    let cell = rw c.new-key.ensures at c.get.ensures in
    rw (← c.self.view_is) (cell ∙ sym (held-missing c.self.inside.runs.items c.self.inside.base c.self.invariant.0.rising c.args.key.now is))
