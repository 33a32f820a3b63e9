-- The contract's view of a disk over a file.
use Rattle.std.specs.Prelude.{ℕ, false, []}
use Rattle.flush_log.specs.Disk.{View}

-- a disk of this length with unknown contents: the library's clauses do not describe the contents of files
abbrev pub of_length : ℕ → View
of_length n = record { is_honest = false; size = n; seen = []; may_leave = λ c. ⊥; moment = 0; left_since = λ t c. ⊥ }
