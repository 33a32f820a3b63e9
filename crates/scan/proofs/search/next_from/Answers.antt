use Rattle.std.proofs.Common.{sym, ◌∙◌}
use Rattle.scan.specs.Edge.{is_under}
use Rattle.scan.proofs.PlaceLemmas.{edge_passes_lower}
use Rattle.scan.proofs.SearchLemmas.{nothing_named, from_named}
use Rattle.scan.proofs.search.next_from.Goals as goal

pub returns-in_err-key : goal.returns-in_err-key
returns-in_err-key g c = rw c.from_residual.ensures (sym (nothing_named g.W.Towards.direction (is_under c.args.edge.now) c.args.chain.now c.depth-in_order.ensures.rising (rw c.lent.ensures at c.in_err-key.ensures)))

pub returns : goal.returns
returns g c =
    rw (c.direction.ensures, c.as_bytes.ensures) at c.nearest.ensures
    ∙ sym (from_named g.W.Towards.direction (is_under c.args.edge.now) (edge_passes_lower c.args.edge.now) c.in_ok-key.key c.args.chain.now c.depth-in_order.ensures.rising (rw c.lent.ensures at c.in_ok-key.ensures))
