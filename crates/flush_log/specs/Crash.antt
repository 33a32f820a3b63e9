-- The outcome of a crash on a test disk: among all possible outcomes, the one in which each range written since the last sync is filled in a
-- requested way.
use Rattle.std.specs.Prelude.{◌≡◌, ℕ, ◌≤◌, List, [], ◌∷◌, length, drop, replicate}
use Rattle.keys.specs.Bytes.{Bytes}
use Rattle.flush_log.specs.Overlay.{overlay}
use Rattle.flush_log.specs.Commit.{Call}
use Rattle.flush_log.specs.Commit.Call.{Write, Sync}
use Rattle.flush_log.specs.declared.crash_disk.Fill.{Fill}
use Rattle.flush_log.specs.declared.crash_disk.Fill.TheVariants.{Before, Written, Byte}

-- a file after a write of these bytes was torn: it has the old bytes, the written ones, or one byte everywhere
abbrev pub torn_by : Fill → ℕ → Bytes → Bytes → Bytes
torn_by Before at bytes file = file
torn_by Written at bytes file = overlay file at bytes
torn_by (Byte b) at bytes file = overlay file at (replicate (length bytes) b)

-- the outcome after these calls, where `seen` was readable before them and a crash left `left`; a sync makes the readable contents durable
abbrev pub left_with : Fill → List Call → Bytes → Bytes → Bytes
left_with fill [] seen left = left
left_with fill (Write at bytes ∷ calls) seen left = left_with fill calls (overlay seen at bytes) (torn_by fill at bytes left)
left_with fill (Sync ∷ calls) seen left = left_with fill calls seen seen

-- a file after each of these writes was torn, in order
abbrev pub all_torn : Fill → List Call → Bytes → Bytes
all_torn fill [] file = file
all_torn fill (Write at bytes ∷ calls) file = all_torn fill calls (torn_by fill at bytes file)
all_torn fill (Sync ∷ calls) file = all_torn fill calls file

-- for a disk with the synced bytes `file` that then got these calls, `is_synced` is the outcome after the first `since` of them; the outcome after
-- all calls is `is_synced` with the later writes torn
pub record IsSyncedAt (file : Bytes) (calls : List Call) (since : ℕ) (is_synced : Bytes) : Type 0 where
  pub within : since ≤ length calls
  pub long : length is_synced ≡ length file
  pub left : (fill : Fill) → left_with fill calls file file ≡ all_torn fill (drop since calls) is_synced
