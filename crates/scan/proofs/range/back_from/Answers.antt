use Rattle.std.proofs.Common.{sym, ◌∙◌, refl}
use Rattle.mapping.specs.Levels.{contents}
use Rattle.mapping.specs.TreeInMemory.{tree_of}
use Rattle.scan.specs.Edge.{is_under}
use Rattle.scan.specs.declared.direction.Direction.TheVariants.{Down}
use Rattle.scan.specs.declared.edge.Edge.TheVariants.{High}
use Rattle.scan.proofs.PlaceLemmas.{edge_passes_lower}
use Rattle.scan.proofs.RangeLemmas.{own_alike, same_alike, same_beyond}
use Rattle.scan.proofs.TreeLemmas.{contents-rise}
use Rattle.scan.proofs.range.back_from.Goals as goal

pub returns-clause-alike : goal.returns-clause-alike
returns-clause-alike c =
    own_alike Down (is_under c.args.end.now) _ (contents (tree_of c.args.tree.now)) (contents-rise (tree_of c.args.tree.now) c.requires.held c.requires.levels) (edge_passes_lower c.args.end.now)
    _ (rw c.new-back.ensures at c.peek.ensures.key) c.edge_after-edge.ensures

pub returns-in-High-clause-alike : goal.returns-in-High-clause-alike
returns-in-High-clause-alike c = rw c.in-High.is (same_alike (is_under High) (is_under High) (contents (tree_of c.args.tree.now)) (λ k. refl))

pub returns-clause-walk : goal.returns-clause-walk
returns-clause-walk c =
    c.peek.ensures.kept
    ∙ c.new-back.ensures
    ∙ sym (same_beyond Down (is_under c.edge_after-edge.result) (is_under c.args.end.now) (contents (tree_of c.args.tree.now)) (returns-clause-alike c))
