-- A play that a step ends: what the steps before it have done, and what the refused step leaves.
use Rattle.std.specs.Prelude.{◌≡◌, ◌≢◌, ℕ, ◌<◌, Bool, IsTrue, List, length, map, take, Result, Err}
use Rattle.std.proofs.Common.{refl, sym, ap, ◌∙◌, subst, inl, inr, ⊎_elim, get_or}
use Rattle.std.specs.declared.alloc.Global.{Global}
use Rattle.keys.specs.Bytes.{Bytes}
use Rattle.keys.specs.declared.fault.Fault.{Fault}
use Rattle.keys.specs.declared.fault.Fault.TheVariants.{Device, NoMemory}
use Rattle.flush_log.specs.Disk.{View, Lawful, LeavesOnly}
use Rattle.recovery.specs.StoreOfDisk.{store_of_disk}
use Rattle.recovery.proofs.ReadBytes.{kept_then}
use Rattle.engine.specs.Plays.{step_of}
use Rattle.engine.specs.State.{State}
use Rattle.engine.specs.Steps.{Step, StandsAfterSome, AllNumbersFit, batching, plays}
use Rattle.engine.specs.Turns.{IsStopped, IsTurn}
use Rattle.engine.specs.declared.step.Step as code_step
use Rattle.engine.specs.declared.step.Answer as code_answer
use Rattle.engine.proofs.AsBefore.{WasStep}
use Rattle.engine.proofs.PlayTurn.{stays, still_said, still_exact, crash_on, words_on, left_after_it, one_taken, device_or_not, reached_device, reached_other}

pub no_memory_no_device : NoMemory ≢ Device
no_memory_no_device e = cc

-- a step that was refused
abbrev refused : Fault → Result code_answer.Answer Fault
refused fault = Err fault

module _ {D : Type 0} (view : D → View) (failures : D → ℕ) (lawful : (disk : D) → IsTrue (view disk).is_honest → Lawful (view disk)) (old : State D)
    (steps : List code_step.Step) (i : ℕ) (y : code_step.Step) (below : i < length steps) (is : y ≡ get_or steps i y)
    (said : List code_answer.Answer) (cur : State D) (turn : IsTurn view failures old (map step_of (take i steps)) said cur) (next : State D) (fault : Fault) where
  abbrev done : List (Step Global)
  done = map step_of (take i steps)

  abbrev first : Bytes
  first = (view old.disk).seen

  abbrev Have : List (Step Global) → Type 0
  Have ys = AllNumbersFit (batching old.settings) old.settings old.store first ys

  abbrev Leaves : List (Step Global) → Type 0
  Leaves ys = LeavesOnly (view old.disk) (view next.disk) (StandsAfterSome (batching old.settings) old.settings old.store first ys)

  module _ (able : Bool) (step : WasStep view failures able (step_of y) cur (refused fault) next) where
    still : fault ≢ Device → IsTurn view failures old done said next
    still other = stays view failures lawful old done said cur turn next step.rest step.unchanged (step.fine other) (λ h. step.same h other) step.sound.1

    stopped_here : IsStopped view failures old steps i said fault next
    stopped_here = record {
      sound = step.sound.1;
      rest = (step.rest.0 ∙ turn.settings, kept_then _ _ _ turn.kept step.rest.1);
      played = still_said view failures lawful old done said cur turn next step.unchanged;
      exact = λ honest. still_exact view failures lawful old done said cur turn next step.unchanged honest;
      turn = still;
      words = turn.words;
      device = λ device. (step.device device).0;
      words_reached = λ honest. ⊎_elim
          (λ device. subst Have (sym (reached_device steps fault i i y device refl below is)) (words_on view failures lawful old done said cur turn next (step_of y) honest (step.device device).1))
          (λ other. subst Have (sym (reached_other steps fault i i (other.1 i) refl)) (turn.words honest))
          (device_or_not fault);
      crash = λ fine is_synced. ⊎_elim
          (λ device. subst Leaves (sym (reached_device steps fault i i y device refl below is)) (crash_on view failures lawful old done said cur turn next (step_of y) step.crash fine is_synced))
          (λ other. subst Leaves (sym (reached_other steps fault i i (other.1 i) refl)) ((still other.0).crash fine is_synced))
          (device_or_not fault);
      following = λ fine is_synced device c left. ⊎_elim
          (λ before. inl before)
          (λ after. inr (after ∙ ap (λ (ys : List (Step Global)). store_of_disk (plays (batching old.settings) old.settings old.store first ys).bytes) (sym (one_taken steps i y below is))))
          (left_after_it view failures lawful old done said cur turn next (step_of y) step.rest.1 step.crash fine is_synced c left);
    }

    pub stopped_at : (n : ℕ) → n ≡ i → IsStopped view failures old steps n said fault next
    stopped_at n n_is = subst (λ (k : ℕ). IsStopped view failures old steps k said fault next) (sym n_is) stopped_here
