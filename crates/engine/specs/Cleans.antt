-- Cleans in sequence: the effect of one of them, and of some of them.
use Rattle.std.specs.Prelude.{◌≡◌, ◌≢◌, ℕ, ◌+◌, IsTrue, true, false, List, [], ◌∷◌, ◌++◌, replicate, Ok, Err}
use Rattle.std.specs.declared.alloc.Global.{Global}
use Rattle.keys.specs.Bytes.{Bytes}
use Rattle.keys.specs.declared.fault.Fault.{Fault}
use Rattle.keys.specs.declared.fault.Fault.TheVariants.{Device}
use Rattle.flush_log.specs.Disk.{View, IsSynced, Kept, LeavesOnly}
use Rattle.flush_log.specs.Ends.{ends_of}
use Rattle.cleaner.specs.PagesRead.{PagesRead, IsReadingOf}
use Rattle.engine.specs.OneStep.{IsStep}
use Rattle.engine.specs.Plays.{IsPlayed, IsPlayedOn, IsStepFault}
use Rattle.engine.specs.State.{State, IsSound}
use Rattle.engine.specs.Steps.{Step, StandsAfterSome, batching, plays}
use Rattle.engine.specs.Steps.Step.{Clean}
use Rattle.engine.specs.Steps.Answer.{Cleaned}
use Rattle.engine.specs.Turns.{IsTurn}
use Rattle.engine.specs.declared.step.Answer as code_answer

-- ---- some of them

-- a number of cleans, as steps
abbrev pub cleans : ℕ → List (Step Global)
cleans n = replicate n Clean

-- this many cleans succeeded one after the other, as in a play of them; the tree of the store is unchanged
pub record AreCleaned {D : Type 0} (view : D → View) (failures : D → ℕ) (old : State D) (count : ℕ) (now : State D) : Type 0 where
  pub said : List code_answer.Answer
  pub turn : IsTurn view failures old (cleans count) said now
  pub tree : now.store.tree ≡ old.store.tree

-- A clean failed after this many cleans, which have the effect of a play of them. The tree of the store is unchanged.
pub record AreStopped {D : Type 0} (view : D → View) (failures : D → ℕ) (old now : State D) (count : ℕ) (fault : Fault) : Type 0 where
  pub said : List code_answer.Answer
  pub played : IsPlayed (view old.disk).is_honest old.settings old.store (view old.disk).seen (cleans count) said now.store
  pub exact : IsTrue (view old.disk).is_honest → IsPlayedOn old.settings old.store (view old.disk).seen (cleans count) said now.store
  pub tree : now.store.tree ≡ old.store.tree
  pub sound : IsSound view now
  pub rest : (now.settings ≡ old.settings) × Kept (view old.disk) (view now.disk)
  -- everything that is promised of a play of these cleans, unless a call of the disk failed; then the store has failed
  pub turn : fault ≢ Device → IsTurn view failures old (cleans count) said now
  pub device : fault ≡ Device → now.has_failed ≡ true
  -- why the next clean failed
  pub why : (file : Bytes) × (IsTrue (view old.disk).is_honest → file ≡ (plays (batching old.settings) old.settings old.store (view old.disk).seen (cleans count)).bytes)
      × IsStepFault old.settings now.store file (failures old.disk) (failures now.disk) Clean fault
  -- a crash at any moment leaves the store after some of all these cleans
  pub crash : old.has_failed ≡ false → IsSynced (view old.disk)
      → LeavesOnly (view old.disk) (view now.disk) (StandsAfterSome (batching old.settings) old.settings old.store (view old.disk).seen (cleans count ++ Clean ∷ []))

-- ---- one of them

-- a reading of this store's log, for cleans of it
abbrev pub IsReadFor : {D : Type 0} → (D → View) → State D → PagesRead → Type 0
IsReadFor view x r = IsReadingOf (view x.disk) (record { settings = x.settings; version = x.store.version }) (ends_of x.store) r

-- a clean succeeded
abbrev pub IsDoneClean : {D : Type 0} → (D → View) → (D → ℕ) → State D → State D → ℕ → Type 0
IsDoneClean view failures old now head = IsStep view failures true old Clean (Ok head) (λ n. Cleaned n) now

-- a clean was refused by a store that had not failed
abbrev pub IsRefusedClean : {D : Type 0} → (D → View) → (D → ℕ) → State D → State D → Fault → Type 0
IsRefusedClean view failures old now fault = (old.has_failed ≡ false) × IsStep {X = ℕ} view failures true old Clean (Err fault) (λ n. Cleaned n) now

-- ---- further ones

-- if some cleans have led to this store, then this many more lead to the next one
abbrev pub IsCleanedOn : {D : Type 0} → (D → View) → (D → ℕ) → State D → ℕ → State D → Type 0
IsCleanedOn {D} view failures cur more next =
    (old : State D) (count : ℕ) → AreCleaned view failures old count cur → AreCleaned view failures old (count + more) next

-- the same, and then a clean fails
abbrev pub IsStoppedOn : {D : Type 0} → (D → View) → (D → ℕ) → State D → ℕ → Fault → State D → Type 0
IsStoppedOn {D} view failures cur more fault next =
    (old : State D) (count : ℕ) → AreCleaned view failures old count cur → AreStopped view failures old next (count + more) fault
