use Rattle.std.proofs.Common.{◌≡◌, ◌<◌, ◌^◌, length, inr, sym, ap, subst, ◌∙◌}
use Rattle.mapping.specs.Levels.{contents}
use Rattle.mapping.specs.Tree.{Tree}
use Rattle.mapping.specs.TreeInMemory.{tree_of}
use Rattle.engine.specs.Compacted.{compacted}
use Rattle.engine.specs.SoundTree.{IsSoundInMemory}
use Rattle.engine.specs.State.{store_in}
use Rattle.engine.proofs.CompactedStores.{compacted_sound, is_compacted}
use Rattle.engine.proofs.RoomLemmas.{of_some}
use Rattle.engine.proofs.SoundStores.{uncounted, with_count}
use Rattle.engine.proofs.store.Store.compact_if_it_fits.Goals as goal

pub invariant_of-self : goal.invariant_of-self
invariant_of-self g c =
    let new = c.in-Some.new in
    let is = subst (λ x. IsSoundInMemory x.settings new × (tree_of new ≡ compacted x.settings x.store.tree) × (new.root < 2 ^ 64)) (sym c.self.view_is) (of_some c.in_ok-fitting.fitting _ _ c.in-Some.is c.in_ok-fitting.ensures.fits) in
    let was = store_in c.self.inside.tree c.self.inside.log c.self.inside.version in
    let holds = ap (λ (t : Tree). contents t) is.1 ∙ c.a_compacted_tree_keeps_the_store_in_step.ensures.holds c.self.inside.settings was c.self.invariant.sound.is in
    with_count _ (compacted_sound g.D.Disk.view c.self.inside.settings c.self.inside.tree c.in-Some.new c.self.inside.log c.self.inside.version c.self.inside.disk c.self.inside.has_failed
    is.1 is.2 (uncounted c.self.invariant) is.0
    c.a_compacted_tree_keeps_the_store_in_step.ensures.kept c.a_compacted_tree_keeps_the_store_in_step.ensures.step)
    (c.self.invariant.counted ∙ ap length (sym holds))

pub returns-clause-compacted : goal.returns-clause-compacted
returns-clause-compacted g c =
    let new = c.in-Some.new in
    let is = subst (λ x. IsSoundInMemory x.settings new × (tree_of new ≡ compacted x.settings x.store.tree) × (new.root < 2 ^ 64)) (sym c.self.view_is) (of_some c.in_ok-fitting.fitting _ _ c.in-Some.is c.in_ok-fitting.ensures.fits) in
    let was = store_in c.self.inside.tree c.self.inside.log c.self.inside.version in
    inr (rw (← c.self.view_is) (is_compacted g.D.Disk.view c.self.inside.settings c.self.inside.tree c.in-Some.new c.self.inside.log c.self.inside.version c.self.inside.disk c.self.inside.has_failed
    is.1 is.2 (c.a_compacted_tree_keeps_the_store_in_step.ensures.holds c.self.inside.settings was c.self.invariant.sound.is)))
