use Rattle.std.proofs.Common.{◌≡◌, ℕ, List, ◌++◌}
use Rattle.std.specs.Io.KnownBytes.{Appends}
use Rattle.bwsh.proofs.output.write_bytes.Given as goal

-- the bytes removed from the front were appended
abbrev pub invariant-loop : goal.invariant-loop
invariant-loop g l = (front : List ℕ) × (l.fn.bytes ≡ front ++ l.rest) × Appends (g.O.Write.contents l.fn.out) (g.O.Write.contents l.out) front
