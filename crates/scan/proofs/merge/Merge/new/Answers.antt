use Rattle.scan.specs.Edge.{is_under}
use Rattle.scan.proofs.MergeLemmas.{merge_starts}
use Rattle.scan.proofs.PlaceLemmas.{begins_at_edge, edge_passes_lower}
use Rattle.scan.proofs.merge.Merge.new.Goals as goal

pub returns : goal.returns
returns g c =
    let d = g.W.Towards.direction in
    let under = is_under c.args.edge.now in
    let lower = edge_passes_lower c.args.edge.now in
    merge_starts d under c.args.base.now _ c.args.changes _ c.count_under.ensures.rising c.count_under-2.ensures.rising
    (begins_at_edge under lower d c.args.base.now c.count_under.result c.count_under.ensures.rising c.count_under.ensures.count)
    (begins_at_edge under lower d c.args.changes c.count_under-2.result c.count_under-2.ensures.rising c.count_under-2.ensures.count)
