use Rattle.std.proofs.Common.{ℕ, List, ap, ◌∙◌}
use Rattle.std.specs.Map.{values_of}
use Rattle.scan.specs.Direction.{left_at}
use Rattle.scan.specs.Edge.{is_under}
use Rattle.scan.proofs.PlaceLemmas.{children_begin, edge_passes_lower}
use Rattle.scan.proofs.children.Children.new.Goals as goal

pub returns : goal.returns
returns g c =
    let d = g.W.Towards.direction in
    ap (λ (n : ℕ). values_of (left_at d n c.args.list.now)) (rw (c.direction.ensures, c.max-under.ensures) at c.child_place.ensures)
    ∙ ap (λ (es : List (List ℕ × ℕ)). values_of es) (children_begin (is_under c.args.edge.now) (edge_passes_lower c.args.edge.now) d c.args.list.now c.count_under.result c.count_under.ensures.rising c.count_under.ensures.count)
