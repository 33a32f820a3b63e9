-- The state of a disk at one moment: its readable contents, what a crash may leave, and the effects of calls on both.
use Rattle.std.specs.Prelude.{◌≡◌, ◌≢◌, ◌⊎◌, ◌↔◌, ℕ, ◌+◌, ◌-◌, ◌^◌, ◌<◌, ◌≤◌, min, Bool, IsTrue, length, Result, MatchResult, IfErr}
use Rattle.keys.specs.Bytes.{Bytes}
use Rattle.keys.specs.declared.fault.Fault.{Fault}
use Rattle.keys.specs.declared.fault.Fault.TheVariants.{Device}
use Rattle.flush_log.specs.Overlay.{IsBeside, AgreeAt}

-- the state of a disk; all fields except the first two have meaning for honest disks only
pub record View : Type 1 where
  -- whether the disk keeps what was synced, and behaves as specified
  pub is_honest : Bool
  -- its length in bytes
  pub size : ℕ
  -- the readable contents
  pub seen : Bytes
  -- the possible outcomes of a crash now
  pub may_leave : Bytes → Type 0
  -- the number of earlier moments
  pub moment : ℕ
  -- the possible outcomes of a crash at some moment since the given one
  pub left_since : ℕ → Bytes → Type 0

-- the invariant of each state of an honest disk
pub record Lawful (v : View) : Type 0 where
  pub whole : length v.seen ≡ v.size
  -- a crash may leave the readable contents
  pub may_stay : v.may_leave v.seen
  -- the present is one of the moments since an earlier one
  pub counts_now : (t : ℕ) (c : Bytes) → t ≤ v.moment → v.may_leave c → v.left_since t c
  -- the present is the only moment since the present
  pub only_now : (c : Bytes) → v.left_since v.moment c → v.may_leave c

-- the only outcome is this file
abbrev pub Only : Bytes → (Bytes → Type 0) → Type 0
Only file outcomes = (c : Bytes) → outcomes c → c ≡ file

-- the disk is honest, and a crash now leaves the readable contents
pub record IsSynced (v : View) : Type 0 where
  pub honest : IsTrue v.is_honest
  pub only : Only v.seen v.may_leave

-- ---- calls

-- unchanged except for the n bytes from this offset on; a write that was torn or failed may leave such bytes
abbrev pub Torn : ℕ → ℕ → Bytes → Bytes → Type 0
Torn at n = AgreeAt (IsBeside at n)

-- each new outcome is obtained from an old one by the step
abbrev pub Follows : (Bytes → Bytes → Type 0) → (Bytes → Type 0) → (Bytes → Type 0) → Type 0
Follows step old new = (c : Bytes) → new c → (d : Bytes) × old d × step d c

-- no call changes whether a disk is honest, or its length
pub record Kept (old new : View) : Type 0 where
  pub honest : new.is_honest ≡ old.is_honest
  pub size : new.size ≡ old.size

-- time passes: the outcomes of a crash since an earlier moment are the earlier ones and those since `old`
pub record Elapses (old new : View) : Type 0 where
  pub later : old.moment ≤ new.moment
  pub splits : (t : ℕ) (c : Bytes) → t ≤ old.moment → new.left_since t c → old.left_since t c ⊎ new.left_since old.moment c
  pub keeps : (t : ℕ) (c : Bytes) → t ≤ old.moment → old.left_since t c ⊎ new.left_since old.moment c → new.left_since t c

-- neither the bytes nor the outcomes of a crash changed
pub record Same (old new : View) : Type 0 where
  pub seen : new.seen ≡ old.seen
  pub may_leave : (c : Bytes) → new.may_leave c ↔ old.may_leave c
  pub moment : new.moment ≡ old.moment
  pub left_since : (t : ℕ) (c : Bytes) → new.left_since t c ↔ old.left_since t c

-- an honest disk was only read
abbrev pub OnlyRead : View → View → Type 0
OnlyRead old new = IsTrue old.is_honest → Same old new

-- each outcome of a crash since `old` is obtained by the step from an outcome at `old`
pub record Leaves (old new : View) (step : Bytes → Bytes → Type 0) : Type 0 where
  pub time : Elapses old new
  pub crash : Follows step old.may_leave (new.left_since old.moment)

-- each outcome of a crash at any moment since `old` has the property P
pub record LeavesOnly (old new : View) (P : Bytes → Type 0) : Type 0 where
  pub later : old.moment ≤ new.moment
  pub each : (c : Bytes) → new.left_since old.moment c → P c
  -- the same for crashes since earlier moments
  pub before : (t : ℕ) (c : Bytes) → t ≤ old.moment → new.left_since t c → old.left_since t c ⊎ P c

-- a fault other than Device leaves the count of failed calls unchanged
abbrev pub CountsNoOther : {X : Type 0} → Result X Fault → ℕ → ℕ → Type 0
CountsNoOther result old new = IfErr result (λ fault. fault ≢ Device → new ≡ old)

-- a call is counted as failed if and only if it returned Err; the count saturates
abbrev pub CountsFailure : {X E : Type 0} → Result X E → ℕ → ℕ → Type 0
CountsFailure result old new = MatchResult result (λ _. new ≡ old) (λ _. new ≡ min (old + 1) (2 ^ 64 - 1))

-- a call has failed: the count has grown, or is saturated
abbrev pub HasFailed : ℕ → ℕ → Type 0
HasFailed old new = (old < new) ⊎ (new ≡ 2 ^ 64 - 1)
