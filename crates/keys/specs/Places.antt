-- Places of a batch, counted from 0.
use Rattle.std.specs.Prelude.{ℕ, Bool, false, List, slice_get, Option, Some, None}
use Rattle.keys.specs.CommandKey.{is_ranged, is_scan, is_wipe}
use Rattle.keys.specs.declared.command.Command.{Command}

-- whether there is an item that passes the test
abbrev pub is_some_that : {X : Type 0} → (X → Bool) → Option X → Bool
is_some_that passes None = false
is_some_that passes (Some x) = passes x

-- whether the command at this place is a scan
abbrev pub is_scan_at : {A : Type 0} → List (Command A) → ℕ → Bool
is_scan_at cs place = is_some_that is_scan (slice_get cs place)

-- whether the command at this place is a wipe
abbrev pub is_wipe_at : {A : Type 0} → List (Command A) → ℕ → Bool
is_wipe_at cs place = is_some_that is_wipe (slice_get cs place)

-- whether the command at this place covers a range of keys
abbrev pub is_ranged_at : {A : Type 0} → List (Command A) → ℕ → Bool
is_ranged_at cs place = is_some_that is_ranged (slice_get cs place)
