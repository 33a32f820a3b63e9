-- What the relations of a play say in the clauses that `play` had before: no clause says less. The clauses `headline`, `failed`, `still`,
-- `still_failed`, `bad_crew`, `refused` and `sound` are as they were.
use Rattle.std.specs.Prelude.{◌≡◌, ℕ, IsTrue, true, false, List, map, Result, Ok, Err, IfOk, IfErr, MatchResult}
use Rattle.keys.specs.Bytes.{Bytes}
use Rattle.keys.specs.declared.fault.Fault.{Fault}
use Rattle.keys.specs.declared.fault.Fault.TheVariants.{Device}
use Rattle.flush_log.specs.Disk.{View, IsSynced, Kept, LeavesOnly}
use Rattle.engine.specs.Plays.{IsPlayed, IsPlayedOn, IsLeftAfter, UnlessDevice, played, reached, step_of}
use Rattle.engine.specs.State.{State}
use Rattle.engine.specs.Steps.{AllNumbersFit, StandsAfterSome, batching, plays}
use Rattle.engine.specs.Turns.{IsStopped, IsTurn}
use Rattle.engine.specs.declared.step.Step as code_step
use Rattle.engine.specs.declared.step.Answer as code_answer

-- `items` are the answers of a list of the code
pub record WasPlay {D X : Type 0} (view : D → View) (failures : D → ℕ) (items : X → List code_answer.Answer) (old : State D) (steps : List code_step.Step) (result : Result X (ℕ × X × Fault)) (new : State D) : Type 0 where
  pub ok : IfOk result (λ answers. IsPlayed (view old.disk).is_honest old.settings old.store (view old.disk).seen (map step_of steps) (items answers) new.store)
  pub err : IfErr result (λ e. IsPlayed (view old.disk).is_honest old.settings old.store (view old.disk).seen (played result steps) (items e.1) new.store)
  pub exact : IsTrue (view old.disk).is_honest
      → MatchResult result
      (λ answers. IsPlayedOn old.settings old.store (view old.disk).seen (map step_of steps) (items answers) new.store)
      (λ e. IsPlayedOn old.settings old.store (view old.disk).seen (played result steps) (items e.1) new.store)
  pub rest : (new.settings ≡ old.settings) × Kept (view old.disk) (view new.disk)
  pub bytes : IsTrue (view old.disk).is_honest → UnlessDevice result ((view new.disk).seen ≡ (plays (batching old.settings) old.settings old.store (view old.disk).seen (played result steps)).bytes)
  pub device : IfErr result (λ e. e.2 ≡ Device → new.has_failed ≡ true)
  pub counted : UnlessDevice result ((new.has_failed ≡ old.has_failed) × (failures new.disk ≡ failures old.disk))
  pub crash : old.has_failed ≡ false → IsSynced (view old.disk)
      → LeavesOnly (view old.disk) (view new.disk) (StandsAfterSome (batching old.settings) old.settings old.store (view old.disk).seen (reached result steps))
  pub is_synced : IsSynced (view old.disk) → UnlessDevice result (IsSynced (view new.disk))
  pub following : old.has_failed ≡ false → IsSynced (view old.disk)
      → IfErr result (λ e. e.2 ≡ Device → (c : Bytes) → (view new.disk).may_leave c → IsLeftAfter old.settings old.store (view old.disk).seen steps e.0 c)
  pub words : IsTrue (view old.disk).is_honest → AllNumbersFit (batching old.settings) old.settings old.store (view old.disk).seen (played result steps)
  pub words_reached : IsTrue (view old.disk).is_honest → AllNumbersFit (batching old.settings) old.settings old.store (view old.disk).seen (reached result steps)

module _ {D X : Type 0} (view : D → View) (failures : D → ℕ) (items : X → List code_answer.Answer) (old : State D) (steps : List code_step.Step) (new : State D) where
  pub play_as_before : (r : Result X (ℕ × X × Fault)) → IfOk r (λ answers. IsTurn view failures old (map step_of steps) (items answers) new)
      → IfErr r (λ e. IsStopped view failures old steps e.0 (items e.1) e.2 new) → WasPlay view failures items old steps r new
  play_as_before (Ok answers) turn stopped = record {
    ok = turn.played;
    err = tt;
    exact = turn.exact;
    rest = (turn.settings, turn.kept);
    bytes = turn.bytes;
    device = tt;
    counted = (turn.has_failed, turn.failed);
    crash = turn.crash;
    is_synced = turn.is_synced;
    following = λ _ _. tt;
    words = turn.words;
    words_reached = turn.words;
  }
  play_as_before (Err e) turn stopped = record {
    ok = tt;
    err = stopped.played;
    exact = stopped.exact;
    rest = stopped.rest;
    bytes = λ honest other. (stopped.turn other).bytes honest;
    device = stopped.device;
    counted = λ other. ((stopped.turn other).has_failed, (stopped.turn other).failed);
    crash = stopped.crash;
    is_synced = λ is_synced other. (stopped.turn other).is_synced is_synced;
    following = stopped.following;
    words = stopped.words;
    words_reached = stopped.words_reached;
  }
