use Rattle.std.proofs.Common.{subst}
use Rattle.keys.specs.Order.{IsRising}
use Rattle.mapping.specs.Levels.{contents}
use Rattle.mapping.specs.TreeInMemory.{tree_of}
use Rattle.engine.proofs.BatchDone.{tree-sound}
use Rattle.engine.proofs.store.Store.pairs_fit.Goals as goal

pub pairs_can_be_counted-requires : goal.pairs_can_be_counted-requires
pairs_can_be_counted-requires g c = tree-sound c.self.inside.settings c.self.inside.tree c.self.inside.log c.self.inside.version c.self.invariant.home c.self.invariant.sound.is

pub returns-clause-rising : goal.returns-clause-rising
returns-clause-rising g c =
    subst (λ x. IsRising (contents x.store.tree)) c.self.view_is (c.the_contents_of_a_proper_tree_rise.ensures c.self.inside.settings (tree_of c.self.inside.tree) c.self.invariant.sound.is.proper)
