use Rattle.std.proofs.Common.{sym, ◌∙◌, refl}
use Rattle.mapping.specs.Levels.{contents}
use Rattle.mapping.specs.TreeInMemory.{tree_of}
use Rattle.scan.specs.Edge.{is_under}
use Rattle.scan.specs.declared.direction.Direction.TheVariants.{Up}
use Rattle.scan.specs.declared.edge.Edge.TheVariants.{Low}
use Rattle.scan.proofs.PlaceLemmas.{edge_passes_lower}
use Rattle.scan.proofs.RangeLemmas.{own_alike, same_alike, same_beyond}
use Rattle.scan.proofs.TreeLemmas.{contents-rise}
use Rattle.scan.proofs.range.front_from.Goals as goal

pub returns-clause-alike : goal.returns-clause-alike
returns-clause-alike c =
    own_alike Up (is_under c.args.start.now) _ (contents (tree_of c.args.tree.now)) (contents-rise (tree_of c.args.tree.now) c.requires.held c.requires.levels) (edge_passes_lower c.args.start.now)
    _ (rw c.new-front.ensures at c.peek.ensures.key) c.edge_before-edge.ensures

pub returns-in-Low-clause-alike : goal.returns-in-Low-clause-alike
returns-in-Low-clause-alike c = rw c.in-Low.is (same_alike (is_under Low) (is_under Low) (contents (tree_of c.args.tree.now)) (λ k. refl))

pub returns-clause-walk : goal.returns-clause-walk
returns-clause-walk c =
    c.peek.ensures.kept
    ∙ c.new-front.ensures
    ∙ sym (same_beyond Up (is_under c.edge_before-edge.result) (is_under c.args.start.now) (contents (tree_of c.args.tree.now)) (returns-clause-alike c))
