use Rattle.std.proofs.Common.{ap, sym, ◌∙◌, subst}
use Rattle.std.specs.Map.{values_of}
use Rattle.std.specs.Option.{option_map}
use Rattle.scan.specs.Direction.{IsNext, left_at}
use Rattle.scan.specs.Path.{pids_at}
use Rattle.scan.proofs.PlaceLemmas.{at_next_value}
use Rattle.scan.proofs.children.Children.next.Goals as goal

pub returns : goal.returns
returns g c =
    let d = g.W.Towards.direction in
    subst (λ pids. IsNext d pids c.cell.result.now (values_of (left_at d c.in_ok-place.later c.in_ok-list.list.now))) (ap (λ o. pids_at d (option_map (λ e. (e.0.now, e.1)) o)) (sym c.in_ok-list.was) ∙ c.self.view_is)
    (at_next_value d c.in_ok-list.list.now c.in_ok-list.at c.in_ok-place.place c.in_ok-place.later _ (rw (c.direction.ensures, c.len.ensures.count) at c.in_ok-place.ensures) c.cell.ensures)
