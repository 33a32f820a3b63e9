use Rattle.std.proofs.Common.{◌∙◌}
use Rattle.delta_chain.proofs.LocatorLemmas.{changes_of_page}
use Rattle.delta_chain.proofs.chain.Chain.newest_changes.Goals as goal

pub new-requires : goal.new-requires
new-requires g c = rw (c.deref.ensures.value, c.deref-in-Some.ensures.value) (rw c.in-Some.is at c.self.invariant.2)

pub returns-in-Some : goal.returns-in-Some
returns-in-Some g c =
    let newest = rw c.in-Some.is at c.self.invariant.2 in
    let listed = rw (c.deref.ensures.value, c.deref-in-Some.ensures.value) at c.new.ensures in
    rw (← c.self.view_is) (listed ∙ changes_of_page c.self.inside.runs.items c.self.inside.base c.in-Some.locators.items newest c.self.invariant.0.rising)
