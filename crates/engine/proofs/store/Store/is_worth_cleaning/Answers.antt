use Rattle.std.proofs.Common.{◌≡◌, ◌∙◌, ◌+◌, ◌-◌, ◌/◌, ℕ, ap, sym, subst, arith}
use Rattle.std.specs.Prelude.{max}
use Rattle.flush_log.specs.Segments.{last_segment}
use Rattle.engine.specs.State.{store_in}
use Rattle.engine.proofs.RoomLemmas.{worth-by}
use Rattle.engine.proofs.store.Store.is_worth_cleaning.Goals as goal

pub returns : goal.returns
returns g c = rw (← c.self.view_is) (
    let s = c.self.inside.settings in
    let st = store_in c.self.inside.tree c.self.inside.log c.self.inside.version in
    let exact = subst (λ x. x.store.head + c.segments_in_use.result ≡ last_segment x.settings x.store.tail + 1) (sym c.self.view_is) c.segments_in_use.ensures.exact in
    worth-by s st c.args.reading.now.live c.segments_in_use.result c.room_in-room.result c.max-least.result c.saturating_sub.result (omega (arith, exact)) c.room_in-room.ensures (c.max-least.ensures ∙ ap (λ (n : ℕ). max n (c.room_in-room.result / 16)) c.from.ensures) (c.saturating_sub.ensures ∙ ap (λ (n : ℕ). c.room_in-room.result - n) c.live.ensures))
