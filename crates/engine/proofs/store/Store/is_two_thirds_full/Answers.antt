use Rattle.std.proofs.Common.{◌≡◌, ◌∙◌, ◌+◌, ◌*◌, ℕ, ap, sym, subst, arith}
use Rattle.std.specs.Prelude.{nat_le}
use Rattle.flush_log.specs.Segments.{last_segment}
use Rattle.engine.specs.State.{store_in}
use Rattle.engine.proofs.RoomLemmas.{two-thirds-by}
use Rattle.engine.proofs.store.Store.is_two_thirds_full.Goals as goal

pub returns : goal.returns
returns g c = rw (← c.self.view_is) (
    let st = store_in c.self.inside.tree c.self.inside.log c.self.inside.version in
    let exact = subst (λ x. x.store.head + c.segments_in_use.result ≡ last_segment x.settings x.store.tail + 1) (sym c.self.view_is) c.segments_in_use.ensures.exact in
    ap (λ (n : ℕ). nat_le (2 * n) c.saturating_mul.result) c.from.ensures
    ∙ two-thirds-by c.self.inside.settings st c.segments_in_use.result c.saturating_mul.result c.self.invariant.sound.is.good (omega (arith, exact)) c.saturating_mul.ensures)
