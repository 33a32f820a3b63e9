use Rattle.std.proofs.Common.{arith}
use Rattle.scan.specs.Edge.{is_under}
use Rattle.scan.proofs.LazyLemmas.{late_beyond}
use Rattle.scan.proofs.PlaceLemmas.{edge_passes_lower}
use Rattle.scan.proofs.RowLemmas.{root_is_there}
use Rattle.scan.proofs.WalkPairs.{pairs_at_start}
use Rattle.scan.proofs.walk.Walk.new.Goals as goal

pub new-leaves-requires : goal.new-leaves-requires
new-leaves-requires g c = (omega arith, (c.requires.home, (c.requires.height, root_is_there c.args.tree.now c.requires.held c.requires.levels)))

pub returns : goal.returns
returns g c =
    pairs_at_start g.W.Towards.direction c.args.tree.now c.requires.held c.requires.levels (is_under c.args.edge.now) (edge_passes_lower c.args.edge.now) _ _ _ _ c.new-leaves.ensures
    (late_beyond g.W.Towards.direction (is_under c.args.edge.now) c.new-leaves.result.0.1.now c.whole.result.now _ c.whole.ensures c.new.ensures)
