-- A batch and its flush as one call: what the call leaves if it succeeds, if the batch was undone, and if the batch is in doubt.
use Rattle.std.specs.Prelude.{◌≡◌, ◌≢◌, ◌⊎◌, ℕ, Bool, List, Option, Some, None, Ok, Err, Result}
use Rattle.std.specs.declared.alloc.Global.{Global}
use Rattle.keys.specs.Bytes.{Bytes, Pairs}
use Rattle.keys.specs.Step.{map_after_all}
use Rattle.keys.specs.declared.command.Command.{Command}
use Rattle.keys.specs.declared.command.Reply.{Reply}
use Rattle.keys.specs.declared.fault.Fault.{Fault}
use Rattle.keys.specs.declared.fault.Fault.TheVariants.{Device}
use Rattle.mapping.specs.Levels.{contents}
use Rattle.flush_log.specs.Disk.{View}
use Rattle.engine.specs.Batch.{IsLaterFault}
use Rattle.engine.specs.Cleaning.{IsFlushedCleaning, IsStart, IsStoppedCleaning}
use Rattle.engine.specs.OneStep.{IsBatch}
use Rattle.engine.specs.State.{State}
use Rattle.engine.specs.Undo.{IsTooLongToUndo, undo_of_all}
use Rattle.engine.specs.declared.store.durable.Unwritten.{Unwritten}
use Rattle.engine.specs.declared.store.durable.Unwritten.TheVariants.{Undone, InDoubt}

-- ---- the steps of the call

-- a batch was executed with these replies
abbrev pub IsExecuted : {D : Type 0} → (D → View) → Bool → State D → List (Command Global) → List (Reply Global) → State D → Type 0
IsExecuted view able old cs replies now = (let result : Result (List (Reply Global)) Fault = Ok replies in IsBatch view able old cs result (λ said. said) now)

-- a batch was refused with this fault
abbrev pub IsRefusedBatch : {D : Type 0} → (D → View) → Bool → State D → List (Command Global) → Fault → State D → Type 0
IsRefusedBatch view able old cs fault now = (let result : Result (List (Reply Global)) Fault = Err fault in IsBatch view able old cs result (λ said. said) now)

-- a flush that cleans succeeded
abbrev pub IsFlushed : {D : Type 0} → (D → View) → (D → ℕ) → State D → State D → Type 0
IsFlushed {D} view failures old now = (start : State D) × IsStart old start × IsFlushedCleaning view failures start now

-- a flush that cleans was refused with this fault
abbrev pub IsUnflushed : {D : Type 0} → (D → View) → (D → ℕ) → State D → Fault → State D → Type 0
IsUnflushed {D} view failures old fault now = (start : State D) × IsStart old start × IsStoppedCleaning view failures start now fault

-- ---- the call

-- The batch was executed with these replies, and then all was flushed.
pub record IsDurable {D : Type 0} (view : D → View) (failures : D → ℕ) (able : Bool) (old : State D) (cs : List (Command Global)) (replies : List (Reply Global)) (now : State D) : Type 0 where
  pub mid : State D
  pub executed : IsExecuted view able old cs replies mid
  pub flushed : IsFlushed view failures mid now

-- The batch was executed, and the flush after it was refused with this fault.
pub record IsNotDurable {D : Type 0} (view : D → View) (failures : D → ℕ) (able : Bool) (old : State D) (cs : List (Command Global)) (fault : Fault) (now : State D) : Type 0 where
  pub mid : State D
  pub replies : List (Reply Global)
  pub executed : IsExecuted view able old cs replies mid
  pub unflushed : IsUnflushed view failures mid fault now

-- The flush was refused with this fault, but no call of the disk failed, and then the batch was undone: the store has its old contents, settings and
-- condition, and its disk is the one that the cleans of the flush left.
pub record IsUndone {D : Type 0} (view : D → View) (failures : D → ℕ) (able : Bool) (old : State D) (cs : List (Command Global)) (fault : Fault) (now : State D) : Type 0 where
  pub other : fault ≢ Device
  pub mid : State D
  pub refused : IsNotDurable view failures able old cs fault mid
  pub replies : List (Reply Global)
  pub undone : IsExecuted view able mid (undo_of_all (contents old.store.tree) cs) replies now
  pub rest : (now.settings ≡ old.settings) × (now.disk ≡ mid.disk) × (now.has_failed ≡ old.has_failed)

-- why a batch in doubt was not undone: a call of the disk failed; or the undo commands were refused with this fault, for lack of memory or because of
-- the height
abbrev pub IsNotUndone : {D : Type 0} → Pairs Bytes → List (Command Global) → Fault → Option Fault → State D → Type 0
IsNotUndone m cs fault None now = fault ≡ Device
IsNotUndone m cs fault (Some why) now = (fault ≢ Device) × IsLaterFault now.settings now.store.tree (undo_of_all m cs) why

-- What is left if the batch, whose commands have no fault, is not durable. The batch was refused before it was executed, and nothing changed; or it
-- was undone; or it is in doubt, and executed in memory.
abbrev pub IsUnwritten : {D : Type 0} → (D → View) → (D → ℕ) → Bool → State D → List (Command Global) → State D → Unwritten → Type 0
IsUnwritten view failures able old cs now (Undone fault) =
    ((now ≡ old) × (IsLaterFault old.settings old.store.tree cs fault ⊎ IsTooLongToUndo (contents old.store.tree) cs fault))
    ⊎ IsUndone view failures able old cs fault now
IsUnwritten view failures able old cs now (InDoubt fault undo) = IsNotDurable view failures able old cs fault now × IsNotUndone (contents old.store.tree) cs fault undo now

-- the contents of the store after a batch that is not durable: those before the batch, or those that the batch left
abbrev pub contents_after : Pairs Bytes → List (Command Global) → Unwritten → Pairs Bytes
contents_after m cs (Undone fault) = m
contents_after m cs (InDoubt fault undo) = map_after_all m cs

-- the fault of a batch that is not durable
abbrev pub fault_of : Unwritten → Fault
fault_of (Undone fault) = fault
fault_of (InDoubt fault undo) = fault

-- the result, with the fault alone
abbrev pub with_fault : {X : Type 0} → Result X Unwritten → Result X Fault
with_fault (Ok x) = Ok x
with_fault (Err unwritten) = Err (fault_of unwritten)

-- ---- the flush and the undo commands

-- the undo commands were not executed: a call of the disk had failed, or they were refused with this fault
abbrev pub IsUndoRefused : {D : Type 0} → (D → View) → Bool → State D → List (Command Global) → Fault → Option Fault → Type 0
IsUndoRefused view able now undo fault None = fault ≡ Device
IsUndoRefused view able now undo fault (Some why) = (fault ≢ Device) × IsRefusedBatch view able now undo why now

-- After a flush was refused with this fault, the undo commands were executed or not.
abbrev pub IsUndoTried : {D : Type 0} → (D → View) → Bool → State D → List (Command Global) → Fault → State D → Unwritten → Type 0
IsUndoTried view able old undo fault now (Undone reported) =
    (reported ≡ fault) × (fault ≢ Device) × (replies : List (Reply Global)) × IsExecuted view able old undo replies now
IsUndoTried view able old undo fault now (InDoubt reported why) = (reported ≡ fault) × (now ≡ old) × IsUndoRefused view able now undo fault why

-- The flush was refused, and then these undo commands were executed or not.
abbrev pub IsGivenUp : {D : Type 0} → (D → View) → (D → ℕ) → Bool → State D → List (Command Global) → State D → Unwritten → Type 0
IsGivenUp {D} view failures able old undo now (Undone fault) =
    (mid : State D) × (fault ≢ Device) × IsUnflushed view failures old fault mid × (replies : List (Reply Global)) × IsExecuted view able mid undo replies now
IsGivenUp {D} view failures able old undo now (InDoubt fault why) = IsUnflushed view failures old fault now × IsUndoRefused view able now undo fault why
