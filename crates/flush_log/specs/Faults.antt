-- Which calls of the test disks fail, and what a failed write leaves.
use Rattle.std.specs.Prelude.{◌≡◌, ◌⊎◌, ℕ, Bool, false, nat_eq, nat_le, nat_lt, if◌then◌else◌, Option, Some, None}
use Rattle.keys.specs.Bytes.{Bytes}
use Rattle.flush_log.specs.Disk.{View, Same}
use Rattle.flush_log.specs.declared.fault_disk.Failing.{Failing}
use Rattle.flush_log.specs.declared.fault_disk.Failing.TheVariants as failing
use Rattle.flush_log.specs.declared.crash_disk.Moment.{Moment}
use Rattle.flush_log.specs.declared.crash_disk.Moment.TheVariants as moment

-- whether the write or sync with this number is requested to fail
abbrev pub is_wanted : Failing → ℕ → Bool
is_wanted failing.Never n = false
is_wanted (failing.Once call) n = nat_eq n call
is_wanted (failing.From call) n = nat_le call n

-- whether the write or sync with this number is before, at or after the call at which the disk stops
abbrev pub moment_at : Option ℕ → ℕ → Moment
moment_at None n = moment.Running
moment_at (Some stop) n = if nat_eq n stop then moment.Stopping else if nat_lt stop n then moment.Stopped else moment.Running

-- what a failed write leaves: these bytes if it is cut short, or else, for which there must be a reason, the old ones
abbrev pub IsCutShort : Type 0 → Bytes → Type 0 → View → View → Type 0
IsCutShort cut left reason old new = (cut × (new.seen ≡ left)) ⊎ (reason × Same old new)
