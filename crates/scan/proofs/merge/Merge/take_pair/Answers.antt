use Rattle.std.proofs.Common.{sym, subst}
use Rattle.scan.specs.Merge.{ArePairsNext}
use Rattle.scan.proofs.MergeLemmas.{pair_taken, nothing_taken}
use Rattle.scan.proofs.PlaceLemmas.{at_next_place, at_end, rising_left}
use Rattle.scan.proofs.merge.Merge.take_pair.Goals as goal

pub returns-in_err-place : goal.returns-in_err-place
returns-in_err-place g c =
    let d = g.W.Towards.direction in
    let none = nothing_taken d _ _ (at_end d c.self.inside.base.now c.self.inside.at (rw (c.direction.ensures, c.len.ensures.count) at c.in_err-place.ensures)) (subst (λ m. ArePairsNext d m.changes m.pairs) (sym c.self.view_is) c.requires) in
    rw (c.from_residual.ensures, ← c.self.view_is) (none, none)

pub returns : goal.returns
returns g c =
    let d = g.W.Towards.direction in
    rw (← c.self.view_is)
    (pair_taken d _ _ _ _ _ (rising_left d c.self.inside.at c.self.inside.base.now c.len.ensures.rising) (rising_left d c.self.inside.change_at c.self.inside.changes c.len-rising.ensures.rising)
    (at_next_place d c.self.inside.base.now c.self.inside.at c.in_ok-place.place c.in_ok-place.at _ _ (rw (c.direction.ensures, c.len.ensures.count) at c.in_ok-place.ensures) c.key.ensures c.cell.ensures)
    (subst (λ m. ArePairsNext d m.changes m.pairs) (sym c.self.view_is) c.requires))
