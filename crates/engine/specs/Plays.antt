-- The answers and effects of a play: the steps that are called, in terms of the definitions of steps.
use Rattle.std.specs.Prelude.{◌≡◌, ◌≢◌, ◌⊎◌, ℕ, ◌+◌, Bool, IsTrue, List, [], ◌∷◌, map, take, drop, None, Result, Ok, Err}
use Rattle.std.specs.declared.alloc.Global.{Global}
use Rattle.keys.specs.Bytes.{Bytes}
use Rattle.keys.specs.declared.fault.Fault.{Fault}
use Rattle.keys.specs.declared.fault.Fault.TheVariants.{NoMemory, Device}
use Rattle.keys.specs.declared.settings.Settings.{Settings}
use Rattle.mapping.specs.Tree.{Store}
use Rattle.flush_log.specs.Segments.{last_segment}
use Rattle.flush_log.specs.declared.text.CommitKind.TheVariants as texts
use Rattle.recovery.specs.Recovered.{IsLate}
use Rattle.recovery.specs.StoreOfDisk.{store_of_disk}
use Rattle.engine.specs.Calls.{IsLateInWriting}
use Rattle.engine.specs.Refusal.{refusal}
use Rattle.engine.specs.Steps.{Step, Answer, NumbersFit, batching, after_step, plays}
use Rattle.engine.specs.Steps.Step.{Batch, Flush, Clean, Upgrade}
use Rattle.engine.specs.Steps.Answer.{Replies, Flushed, Cleaned, Upgraded}
use Rattle.engine.specs.declared.step.Step as code_step
use Rattle.engine.specs.declared.step.Step.TheVariants as called
use Rattle.engine.specs.declared.step.Answer as code_answer
use Rattle.engine.specs.declared.step.Answer.TheVariants as answered

-- ---- steps and answers

-- a step that is called, as a step of the definitions
abbrev pub step_of : code_step.Step → Step Global
step_of (called.Batch commands) = Batch commands.now
step_of called.Flush = Flush
step_of called.Clean = Clean
step_of called.Upgrade = Upgrade

-- and its answer
abbrev pub answer_of : code_answer.Answer → Answer Global
answer_of (answered.Replies replies) = Replies replies.items
answer_of (answered.Flushed n) = Flushed n
answer_of (answered.Cleaned n) = Cleaned n
answer_of (answered.Upgraded n) = Upgraded n

-- ---- how far a play goes

-- the steps that a play with this result has played: all, or those before the one that was refused
abbrev pub played : {X Y : Type 0} → Result X (ℕ × Y × Fault) → List code_step.Step → List (Step Global)
played (Ok answered) xs = map step_of xs
played (Err e) xs = map step_of (take e.0 xs)

-- how many of them may have written: one more if a call of the disk failed in it
abbrev pub tried : Fault → ℕ → ℕ
tried Device n = n + 1
tried _ n = n

-- the steps that a crash may leave something of
abbrev pub reached : {X Y : Type 0} → Result X (ℕ × Y × Fault) → List code_step.Step → List (Step Global)
reached (Ok answered) xs = map step_of xs
reached (Err e) xs = map step_of (take (tried e.2 e.0) xs)

-- this holds for a play with this result, unless a call of the disk failed in it
abbrev pub UnlessDevice : {X Y : Type 0} → Result X (ℕ × Y × Fault) → Type 0 → Type 0
UnlessDevice (Ok answered) P = P
UnlessDevice (Err e) P = e.2 ≢ Device → P

-- ---- what is played

-- none of these steps is refused, on a store and the bytes of its disk; they have these answers, and this store results
pub record IsPlayedOn (s : Settings) (st : Store) (file : Bytes) (xs : List (Step Global)) (said : List code_answer.Answer) (now : Store) : Type 0 where
  pub unrefused : (plays (batching s) s st file xs).fault ≡ None
  pub answers : map answer_of said ≡ (plays (batching s) s st file xs).answers
  pub store : now ≡ (plays (batching s) s st file xs).store

-- A step succeeded on bytes that were read, as defined, with this resulting store and these bytes; its numbers have 64 bits. On an honest disk, the
-- bytes that were read are those that were left before.
pub record IsStepDone (honest : Bool) (s : Settings) (st : Store) (left : Bytes) (x : Step Global) (a : code_answer.Answer) (now : Store) (bytes : Bytes) : Type 0 where
  pub file : Bytes
  pub shown : IsTrue honest → file ≡ left
  pub done : after_step (batching s) s st file x ≡ Ok (answer_of a, (now, bytes))
  pub words : NumbersFit (batching s) s st x

-- the same for these steps, one after the other, with these answers
abbrev pub IsPlayed : Bool → Settings → Store → Bytes → List (Step Global) → List code_answer.Answer → Store → Type 0
IsPlayed honest s st left [] said now = (said ≡ []) × (now ≡ st)
IsPlayed honest s st left (x ∷ xs) said now =
    (a : code_answer.Answer) × (rest : List code_answer.Answer) × (said ≡ a ∷ rest)
    × (mid : Store) × (bytes : Bytes) × IsStepDone honest s st left x a mid bytes × IsPlayed honest s mid bytes xs rest now

-- ---- what is refused

-- A fault of a step that the definitions do not determine: out of memory, or a failed disk call. For a clean this is possible only if more than one
-- segment is in use, for an upgrade only if the log has version 1.
abbrev pub IsLateInStep : Settings → Store → Bytes → ℕ → ℕ → Step Global → Fault → Type 0
IsLateInStep s st file old new (Batch cs) fault = (fault ≡ NoMemory) × (refusal s cs ≡ None)
IsLateInStep s st file old new Flush fault = IsLateInWriting (texts.Flush st.version) s st file old new fault
IsLateInStep s st file old new Clean fault = (st.head ≢ last_segment s st.tail) × IsLate old new fault
IsLateInStep s st file old new Upgrade fault = IsLateInWriting texts.Upgrade s st file old new fault

-- why a step of a store that has not failed is refused
abbrev pub IsStepFault : Settings → Store → Bytes → ℕ → ℕ → Step Global → Fault → Type 0
IsStepFault s st file old new x fault = (after_step (batching s) s st file x ≡ Err fault) ⊎ IsLateInStep s st file old new x fault

-- why the step after those that were played fails, on the store that they left; or the list of answers could not be allocated
abbrev pub IsPlayFault : Settings → Store → Bytes → ℕ → ℕ → List code_step.Step → ℕ → Fault → Type 0
IsPlayFault s now file old new xs place fault =
    ((place ≡ 0) × (fault ≡ NoMemory))
    ⊎ ((x : code_step.Step) × (rest : List code_step.Step) × (drop place xs ≡ x ∷ rest) × IsStepFault s now file old new (step_of x) fault)

-- ---- what a crash leaves

-- a crash during a step leaves the store before it, or the bytes after it
abbrev pub IsLeftInStep : Settings → Store → Bytes → Step Global → Bytes → Type 0
IsLeftInStep s st file x c =
    (store_of_disk c ≡ store_of_disk file)
    ⊎ ((answer : Answer Global) × (now : Store) × (after_step (batching s) s st file x ≡ Ok (answer, (now, c))))

-- a crash leaves the store after the first n of these steps, or after one more
abbrev pub IsLeftAfter : Settings → Store → Bytes → List code_step.Step → ℕ → Bytes → Type 0
IsLeftAfter s st file xs n c =
    (store_of_disk c ≡ store_of_disk (plays (batching s) s st file (map step_of (take n xs))).bytes)
    ⊎ (store_of_disk c ≡ store_of_disk (plays (batching s) s st file (map step_of (take (n + 1) xs))).bytes)
