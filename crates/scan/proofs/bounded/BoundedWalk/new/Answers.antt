use Rattle.std.specs.Option.{option_copied}
use Rattle.mapping.specs.Levels.{contents}
use Rattle.mapping.specs.TreeInMemory.{tree_of}
use Rattle.scan.specs.Edge.{is_under}
use Rattle.scan.proofs.PlaceLemmas.{edge_passes_lower}
use Rattle.scan.proofs.RowLemmas.{rows_at_start}
use Rattle.scan.proofs.TreeLemmas.{contents-rise}
use Rattle.scan.proofs.bounded.BoundedWalk.new.Goals as goal

pub returns : goal.returns
returns g c =
    rw c.new.ensures
    (rows_at_start (is_under c.args.start.now) (is_under c.args.end.now) (contents (tree_of c.args.tree.now)) g.W.Towards.direction c.args.left (option_copied c.first_after.result)
    (contents-rise (tree_of c.args.tree.now) c.requires.held c.requires.levels) (edge_passes_lower c.args.end.now) c.first_after.ensures)
