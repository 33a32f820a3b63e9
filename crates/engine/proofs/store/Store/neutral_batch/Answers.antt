use Rattle.std.proofs.Common.{sym, subst}
use Rattle.keys.specs.Order.{IsRising}
use Rattle.mapping.specs.Levels.{contents}
use Rattle.mapping.specs.TreeInMemory.{tree_of}
use Rattle.engine.proofs.store.Store.neutral_batch.Goals as goal

pub loop-low-preserved : goal.loop-low-preserved
loop-low-preserved g c =
    let rises = subst (λ x. IsRising (contents x.store.tree)) c.self.view_is (c.the_contents_of_a_proper_tree_rise.ensures c.self.inside.settings (tree_of c.self.inside.tree) c.self.invariant.sound.is.proper) in
    c.in_ok-push_neutral.ensures (contents c.args.self.now.store.tree) rises (sym c.get.ensures) c.loop-low.invariant
