-- A disk with a record of calls: its initial bytes, and the calls since then, in order.
use Rattle.std.specs.Prelude.{◌≡◌, ◌⊎◌, ℕ, ◌+◌, ◌-◌, ◌<◌, ◌≤◌, true, List, ◌++◌, length, map, take, replicate}
use Rattle.std.specs.List.{AllByRecursion}
use Rattle.keys.specs.Bytes.{Bytes}
use Rattle.flush_log.specs.Disk.{View}
use Rattle.flush_log.specs.Commit.{Call, seen_after, MayLeave}
use Rattle.flush_log.specs.Commit.Call.{Write, Sync}
use Rattle.flush_log.specs.declared.mem_disk.RecordedCall.{RecordedCall}
use Rattle.flush_log.specs.declared.mem_disk.RecordedCall.TheVariants as recorded

-- the outcomes of a crash after these calls on a synced disk: the readable contents, or other outcomes of the calls
abbrev pub LeftNow : Bytes → List Call → Bytes → Type 0
LeftNow file calls c = (c ≡ seen_after calls file) ⊎ MayLeave calls file (λ d. d ≡ file) c

-- the outcomes of a crash after fewer of the calls, but not before the first t of them
abbrev pub LeftEarlier : Bytes → List Call → ℕ → Bytes → Type 0
LeftEarlier file calls t c = (k : ℕ) × (t ≤ k) × (k < length calls) × MayLeave (take k calls) file (λ d. d ≡ file) c

-- the state of a disk with these synced bytes after these calls; each call takes a moment
abbrev pub view_of : Bytes → List Call → View
view_of file calls = record {
  is_honest = true;
  size = length file;
  seen = seen_after calls file;
  may_leave = LeftNow file calls;
  moment = length calls;
  left_since = λ t c. LeftNow file calls c ⊎ LeftEarlier file calls t c;
}

-- the place after the last byte that a call writes
abbrev pub end_of_call : Call → ℕ
end_of_call (Write at bytes) = at + length bytes
end_of_call Sync = 0

-- each write lies within n bytes
abbrev pub AreCalls : ℕ → List Call → Type 0
AreCalls n calls = AllByRecursion (λ call. end_of_call call ≤ n) calls

-- a recorded call as a call of the definitions
abbrev pub call_of : {A : Type 0} → RecordedCall A → Call
call_of (recorded.Write at bytes) = Write at bytes.items
call_of recorded.Sync = Sync

abbrev pub calls_of : {A : Type 0} → List (RecordedCall A) → List Call
calls_of calls = map call_of calls

-- a file of n bytes: first these, and then zeros
abbrev pub with_zeros : ℕ → Bytes → Bytes
with_zeros n first = first ++ replicate (n - length first) 0
