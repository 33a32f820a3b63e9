use Rattle.std.proofs.Common.{refl}
use Rattle.std.specs.Option.{option_copied}
use Rattle.scan.proofs.MergeLemmas.{change_taken, no_change_next, pairs_are_next}
use Rattle.scan.proofs.PlaceLemmas.{at_end, at_next_place, next_there_is, rising_left}
use Rattle.scan.proofs.merge.Merge.take_change.Goals as goal

pub returns-in_err-place : goal.returns-in_err-place
returns-in_err-place g c =
    let d = g.W.Towards.direction in
    rw (c.from_residual.ensures, ← c.self.view_is)
    (refl, no_change_next d _ _ (at_end d c.self.inside.changes c.self.inside.change_at (rw (c.direction.ensures, c.len.ensures.count) at c.in_err-place.ensures)))

pub returns-in_err-at : goal.returns-in_err-at
returns-in_err-at g c =
    let d = g.W.Towards.direction in
    let place = rw (c.direction.ensures, c.len.ensures.count) at c.in_ok-place.ensures in
    let there = next_there_is d c.self.inside.changes c.self.inside.change_at c.in_ok-place.place c.in_ok-place.later place in
    rw (c.from_residual-in_err-at.ensures, ← c.self.view_is) (
      refl,
      pairs_are_next d there.0 there.1 _ _ _ (rising_left d c.self.inside.at c.self.inside.base.now c.len-rising.ensures.rising) (rising_left d c.self.inside.change_at c.self.inside.changes c.len.ensures.rising)
          (at_next_place d c.self.inside.changes c.self.inside.change_at c.in_ok-place.place c.in_ok-place.later there.0 there.1 place there.2 there.3)
          (rw c.direction-2.ensures at (c.in_err-at.ensures there.0 there.2)),
    )

pub returns : goal.returns
returns g c =
    let d = g.W.Towards.direction in
    let place = rw (c.direction.ensures, c.len.ensures.count) at c.in_ok-place.ensures in
    let past = rw c.direction-2.ensures at (c.in_ok-at.ensures c.change.result.0.now c.change.ensures.key) in
    rw (← c.self.view_is)
    (change_taken d c.change.result.0.now (option_copied c.change.result.1) _ _ _ _ (rising_left d c.self.inside.at c.self.inside.base.now c.len-rising.ensures.rising) (rising_left d c.self.inside.change_at c.self.inside.changes c.len.ensures.rising)
    (at_next_place d c.self.inside.changes c.self.inside.change_at c.in_ok-place.place c.in_ok-place.later c.change.result.0.now (option_copied c.change.result.1) place c.change.ensures.key c.change.ensures.cell)
    past.0 past.1)
