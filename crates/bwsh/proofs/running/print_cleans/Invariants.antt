use Rattle.std.proofs.Common.{◌≡◌, ◌+◌, ◌-◌, ℕ}
use Rattle.std.specs.Prelude.{◌≤◌}
use Rattle.std.specs.Io.KnownBytes.{Appends}
use Rattle.keys.specs.Lists.{flat}
use Rattle.bwsh.specs.Session.{head_lines}
use Rattle.bwsh.proofs.running.print_cleans.Given as goal

-- the lines of the segments before this one are printed
abbrev pub invariant-loop-segment : goal.invariant-loop-segment
invariant-loop-segment g l =
    (n : ℕ) × (l.segment ≡ l.fn.head + n) × (n ≤ l.fn.last - l.fn.head) × Appends (g.O.Write.contents l.fn.out) (g.O.Write.contents l.out) (flat (head_lines l.fn.head n))
