use Rattle.std.proofs.Common.{◌≡◌, false, true, length, map, take}
use Rattle.std.specs.Prelude.{vec_len, vec_capacity}
use Rattle.engine.specs.Plays.{step_of}
use Rattle.engine.specs.Refusal.{is_crew}
use Rattle.engine.specs.Turns.{IsTurn}
use Rattle.engine.proofs.store.Store.play.Given as goal

-- the steps so far are done, none with a crew out of range, and there is room for the answers of the rest
abbrev pub invariant-loop-step : goal.invariant-loop-step
invariant-loop-step g l = record {
  len : vec_len l.answers ≡ l.step-index;
  room : vec_capacity l.answers ≡ length l.steps;
  still : l.fn.self.has_failed ≡ true → l.self ≡ l.fn.self;
  able : l.fn.self.has_failed ≡ false → is_crew l.crew ≡ false → l.step-index ≡ 0;
  turn : IsTurn g.D.Disk.view g.D.Disk.failed l.fn.self (map step_of (take l.step-index l.steps)) l.answers.items l.self;
}
