-- One step of a store: a batch, a flush, a clean or an upgrade. What its call returns, why the call is refused, and what it leaves.
use Rattle.std.specs.Prelude.{◌≡◌, ◌≢◌, ⊤, ℕ, Bool, IsTrue, true, false, List, [], None, Result, Ok, Err, IfOk, IfErr, OnOk, OnErr, MatchOption}
use Rattle.std.specs.declared.alloc.Global.{Global}
use Rattle.keys.specs.Bytes.{Bytes}
use Rattle.keys.specs.Step.{map_after_all, replies_to}
use Rattle.keys.specs.declared.command.Command.{Command}
use Rattle.keys.specs.declared.command.Reply.{Reply}
use Rattle.keys.specs.declared.fault.Fault.{Fault}
use Rattle.keys.specs.declared.fault.Fault.TheVariants.{BadCrew, Device, Failed}
use Rattle.keys.specs.declared.settings.Settings.{Settings}
use Rattle.mapping.specs.Levels as levels
use Rattle.mapping.specs.Tree.{Store}
use Rattle.flush_log.specs.Disk.{View, IsSynced, Kept, Same, LeavesOnly}
use Rattle.flush_log.specs.FlushText.{flush_frames}
use Rattle.flush_log.specs.declared.text.CommitKind.{CommitKind}
use Rattle.flush_log.specs.declared.text.CommitKind.TheVariants as texts
use Rattle.recovery.specs.Recovered.{IsReadOf}
use Rattle.climb_plan.specs.Plan.{plan}
use Rattle.engine.specs.Batch.{IsLaterFault, refusal_by}
use Rattle.engine.specs.Plays.{IsStepFault, IsLeftInStep}
use Rattle.engine.specs.Refusal.{refusal}
use Rattle.engine.specs.State.{State, IsOnlyInMemory, IsSound}
use Rattle.engine.specs.Steps.{Step, Answer, NumbersFit, after_step, batching}
use Rattle.engine.specs.Steps.Step.{Batch, Flush, Clean, Upgrade}
use Rattle.engine.specs.Steps.Answer.{Flushed, Upgraded}

-- ---- the step that writes a commit of this kind

-- a flush or an upgrade
abbrev pub step_by : {A : Type 0} → CommitKind → Step A
step_by (texts.Flush version) = Flush
step_by texts.Upgrade = Upgrade

-- its answer, with this sequence number
abbrev pub answer_by : {A : Type 0} → CommitKind → ℕ → Answer A
answer_by (texts.Flush version) n = Flushed n
answer_by texts.Upgrade n = Upgraded n

-- ---- what depends on the kind of step

-- The bytes of the disk by which the step is defined. A clean reads them. Other steps read nothing, so theirs are what a read would return.
abbrev pub IsReadBy : View → Step Global → Bytes → Type 0
IsReadBy v (Batch cs) file = file ≡ v.seen
IsReadBy v Flush file = file ≡ v.seen
IsReadBy v Clean file = IsReadOf v file
IsReadBy v Upgrade file = file ≡ v.seen

-- whether this step syncs the disk if it succeeds
abbrev pub Syncs : Step Global → Store → Type 0
Syncs (Batch cs) st = ⊥
Syncs Flush st = flush_frames st.version st.tree ≢ []
Syncs Clean st = ⊤
Syncs Upgrade st = ⊤

-- only the disk was read
pub record IsOnlyRead {D : Type 0} (view : D → View) (failures : D → ℕ) (old now : State D) : Type 0 where
  pub rest : (now.settings ≡ old.settings) × Kept (view old.disk) (view now.disk)
  pub store : now.store ≡ old.store
  pub counted : (now.has_failed ≡ old.has_failed) × (failures now.disk ≡ failures old.disk)
  pub same : IsTrue (view old.disk).is_honest → Same (view old.disk) (view now.disk)
  pub sound : IsSound view now

-- What a step leaves if it fails, but no call of the disk failed: all as it was, except that a clean may have read the disk.
abbrev pub IsUndone : {D : Type 0} → (D → View) → (D → ℕ) → Step Global → State D → State D → Type 0
IsUndone view failures (Batch cs) old new = new ≡ old
IsUndone view failures Flush old new = new ≡ old
IsUndone view failures Clean old new = IsOnlyRead view failures old new
IsUndone view failures Upgrade old new = new ≡ old

-- ---- the step

-- The step was done as defined, and left this store and these bytes. Its numbers fit in 64 bits.
pub record IsDoneBy (v : View) (s : Settings) (st : Store) (x : Step Global) (answer : Answer Global) (now : Store) (bytes : Bytes) : Type 0 where
  pub file : Bytes
  pub read : IsReadBy v x file
  pub done : after_step (batching s) s st file x ≡ Ok (answer, (now, bytes))
  pub words : NumbersFit (batching s) s st x

-- What the call of this step promises: it was called on the store `old`, returned this result, and left the store `new`. `able` says whether its
-- crew is in range. `answer` makes the step's answer of what the call returns.
pub record IsStep {D X : Type 0} (view : D → View) (failures : D → ℕ) (able : Bool) (old : State D) (x : Step Global) (result : Result X Fault) (answer : X → Answer Global) (new : State D) : Type 0 where
  -- on any disk
  pub done : IfOk result (λ a. (bytes : Bytes) × IsDoneBy (view old.disk) old.settings old.store x (answer a) new.store bytes)
  pub counted : OnOk result ((new.has_failed ≡ old.has_failed) × (failures new.disk ≡ failures old.disk))
  pub rest : (new.settings ≡ old.settings) × Kept (view old.disk) (view new.disk)
  -- which fault it returns, and what it leaves then
  pub failed : old.has_failed ≡ true → (result ≡ Err Failed) × (new ≡ old)
  pub bad_crew : old.has_failed ≡ false → able ≡ false → (result ≡ Err BadCrew) × (new ≡ old)
  pub refused : old.has_failed ≡ false → IsTrue able → IfErr result (λ fault. (file : Bytes) × IsReadBy (view old.disk) x file
      × IsStepFault old.settings old.store file (failures old.disk) (failures new.disk) x fault)
  pub undone : IfErr result (λ fault. fault ≢ Device → IsUndone view failures x old new)
  pub device : IfErr result (λ fault. fault ≡ Device → (new.store ≡ old.store) × (new.has_failed ≡ true) × NumbersFit (batching old.settings) old.settings old.store x)
  -- On an honest disk: the bytes. A synced disk stays synced, and a step that syncs it leaves it synced. A crash leaves the store before the step, or
  -- these bytes.
  pub bytes : IsTrue (view old.disk).is_honest
      → IfOk result (λ a. after_step (batching old.settings) old.settings old.store (view old.disk).seen x ≡ Ok (answer a, (new.store, (view new.disk).seen)))
  pub is_synced : IsSynced (view old.disk) → OnOk result (IsSynced (view new.disk))
  pub syncs : IsTrue (view old.disk).is_honest → Syncs x old.store → OnOk result (IsSynced (view new.disk))
  pub crash : old.has_failed ≡ false → IsSynced (view old.disk)
      → LeavesOnly (view old.disk) (view new.disk) (IsLeftInStep old.settings old.store (view old.disk).seen x)
  pub sound : IsSound view old × IsSound view new

-- What the call of a batch promises: it was called with these commands on the store `old`, returned this result, whose replies are `said`, and left the
-- store `new`. `able` says whether its crew is in range.
pub record IsBatch {D X : Type 0} (view : D → View) (able : Bool) (old : State D) (cs : List (Command Global)) (result : Result X Fault) (said : X → List (Reply Global)) (new : State D) : Type 0 where
  -- the replies are those of an ordered map; the pages, the root, the height and the log states are those of the plan
  pub replies : IfOk result (λ x. said x ≡ replies_to (levels.contents old.store.tree) cs)
  pub store : OnOk result (new.store ≡ plan old.settings old.store cs)
  pub contents : OnOk result (levels.contents new.store.tree ≡ map_after_all (levels.contents old.store.tree) cs)
  pub rest : IsOnlyInMemory old new
  -- which fault, and that there are no other faults except for memory and for the height
  pub failed : old.has_failed ≡ true → result ≡ Err Failed
  pub bad_crew : old.has_failed ≡ false → able ≡ false → result ≡ Err BadCrew
  pub refused : old.has_failed ≡ false → IsTrue able
      → MatchOption (refusal old.settings cs) (IfErr result (IsLaterFault old.settings old.store.tree cs)) (λ fault. result ≡ Err fault)
  pub unchanged : OnErr result (new ≡ old)
  -- a batch that succeeds is refused by no rule, and its root's page id has 64 bits
  pub allowed : OnOk result ((refusal_by old.settings old.store.tree cs ≡ None) × NumbersFit (batching old.settings) old.settings old.store (Batch cs))
  pub sound : IsSound view old × IsSound view new
