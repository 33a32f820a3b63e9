-- The key of a command, and its kind.
use Rattle.std.specs.Prelude.{Bool}
use Rattle.keys.specs.Bytes.{Bytes}
use Rattle.keys.specs.Footprint.{span_of, joining_of, first_of, is_range, is_of_rows, is_of_counts}
use Rattle.keys.specs.declared.command.Command.{Command}

-- the key that a command reads or changes; for a scan or a wipe, its lower bound
abbrev pub key_of : {A : Type 0} → Command A → Bytes
key_of c = first_of (span_of c)

-- whether the command covers a range of keys, which may lie in several pages
abbrev pub is_ranged : {A : Type 0} → Command A → Bool
is_ranged c = is_range (span_of c)

-- whether the command is a scan; only scans are answered with rows
abbrev pub is_scan : {A : Type 0} → Command A → Bool
is_scan c = is_of_rows (joining_of c)

-- whether the command is a wipe; only wipes are answered with a count
abbrev pub is_wipe : {A : Type 0} → Command A → Bool
is_wipe c = is_of_counts (joining_of c)
