-- Steps of a play: what those that were all done answered and left, and what those before a refused one did.
use Rattle.std.specs.Prelude.{◌≡◌, ◌≢◌, ℕ, Bool, IsTrue, true, false, List, [], ◌∷◌, map, take}
use Rattle.std.specs.declared.alloc.Global.{Global}
use Rattle.keys.specs.Bytes.{Bytes}
use Rattle.keys.specs.declared.fault.Fault.{Fault}
use Rattle.keys.specs.declared.fault.Fault.TheVariants.{Device}
use Rattle.keys.specs.declared.settings.Settings.{Settings}
use Rattle.mapping.specs.Tree.{Store}
use Rattle.flush_log.specs.Disk.{View, IsSynced, Kept, LeavesOnly}
use Rattle.engine.specs.Plays.{IsPlayed, IsPlayedOn, IsStepDone, IsLeftAfter, step_of, tried}
use Rattle.engine.specs.State.{State, IsSound}
use Rattle.engine.specs.Steps.{Step, StandsAfterSome, AllNumbersFit, batching, plays}
use Rattle.engine.specs.declared.step.Step as code_step
use Rattle.engine.specs.declared.step.Answer as code_answer

-- these steps were done one after the other, as `IsPlayed` says, and left these bytes last
abbrev pub IsPlayedTo : Bool → Settings → Store → Bytes → List (Step Global) → List code_answer.Answer → Store → Bytes → Type 0
IsPlayedTo honest s st left [] said now last = (said ≡ []) × (now ≡ st) × (last ≡ left)
IsPlayedTo honest s st left (x ∷ xs) said now last =
    (a : code_answer.Answer) × (rest : List code_answer.Answer) × (said ≡ a ∷ rest)
    × (mid : Store) × (bytes : Bytes) × IsStepDone honest s st left x a mid bytes × IsPlayedTo honest s mid bytes xs rest now last

-- these steps of a play were done, and answered so; what is promised of a play that isn't refused
pub record IsTurn {D : Type 0} (view : D → View) (failures : D → ℕ) (old : State D) (xs : List (Step Global)) (said : List code_answer.Answer) (now : State D) : Type 0 where
  pub sound : IsSound view now
  pub settings : now.settings ≡ old.settings
  pub has_failed : now.has_failed ≡ old.has_failed
  pub failed : failures now.disk ≡ failures old.disk
  pub kept : Kept (view old.disk) (view now.disk)
  pub none : old.has_failed ≡ true → xs ≡ []
  -- each was done of what a read gave; the last left what a read gives now
  pub trace : (last : Bytes) × IsPlayedTo (view old.disk).is_honest old.settings old.store (view old.disk).seen xs said now.store last × (IsTrue (view old.disk).is_honest → last ≡ (view now.disk).seen)
  pub played : IsPlayed (view old.disk).is_honest old.settings old.store (view old.disk).seen xs said now.store
  pub exact : IsTrue (view old.disk).is_honest → IsPlayedOn old.settings old.store (view old.disk).seen xs said now.store
  pub words : IsTrue (view old.disk).is_honest → AllNumbersFit (batching old.settings) old.settings old.store (view old.disk).seen xs
  pub bytes : IsTrue (view old.disk).is_honest → (view now.disk).seen ≡ (plays (batching old.settings) old.settings old.store (view old.disk).seen xs).bytes
  pub is_synced : IsSynced (view old.disk) → IsSynced (view now.disk)
  pub crash : old.has_failed ≡ false → IsSynced (view old.disk)
      → LeavesOnly (view old.disk) (view now.disk) (StandsAfterSome (batching old.settings) old.settings old.store (view old.disk).seen xs)

-- The step at this place of a play was refused; those before it are done, as a play of them does, and answered so. If a call of the disk failed in
-- the refused step, the store has failed, and the disk holds the store before that step, or the bytes after it.
pub record IsStopped {D : Type 0} (view : D → View) (failures : D → ℕ) (old : State D) (xs : List code_step.Step) (place : ℕ) (said : List code_answer.Answer) (fault : Fault) (now : State D) : Type 0 where
  pub sound : IsSound view now
  pub rest : (now.settings ≡ old.settings) × Kept (view old.disk) (view now.disk)
  pub played : IsPlayed (view old.disk).is_honest old.settings old.store (view old.disk).seen (map step_of (take place xs)) said now.store
  pub exact : IsTrue (view old.disk).is_honest → IsPlayedOn old.settings old.store (view old.disk).seen (map step_of (take place xs)) said now.store
  -- all that is promised of the steps that are done, unless a call of the disk failed
  pub turn : fault ≢ Device → IsTurn view failures old (map step_of (take place xs)) said now
  pub words : IsTrue (view old.disk).is_honest → AllNumbersFit (batching old.settings) old.settings old.store (view old.disk).seen (map step_of (take place xs))
  pub device : fault ≡ Device → now.has_failed ≡ true
  -- the numbers of the step in which a call of the disk failed have 64 bits too, and a crash during the play may leave the store after it
  pub words_reached : IsTrue (view old.disk).is_honest
      → AllNumbersFit (batching old.settings) old.settings old.store (view old.disk).seen (map step_of (take (tried fault place) xs))
  pub crash : old.has_failed ≡ false → IsSynced (view old.disk)
      → LeavesOnly (view old.disk) (view now.disk) (StandsAfterSome (batching old.settings) old.settings old.store (view old.disk).seen (map step_of (take (tried fault place) xs)))
  -- a crash after the play leaves the store before that step, or after it
  pub following : old.has_failed ≡ false → IsSynced (view old.disk) → fault ≡ Device → (c : Bytes) → (view now.disk).may_leave c
      → IsLeftAfter old.settings old.store (view old.disk).seen xs place c
