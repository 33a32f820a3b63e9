use Rattle.std.proofs.Common.{◌≡◌, length}
use Rattle.scan.specs.Merge.{merged}
use Rattle.scan.proofs.merge.next_pair.Given as goal

-- the remaining pairs are the same as at the beginning, since a deletion yields no pair
abbrev pub invariant-loop-key : goal.invariant-loop-key
invariant-loop-key g l = merged l.merge ≡ merged l.initial.merge

abbrev pub decreases-loop-key : goal.decreases-loop-key
decreases-loop-key g l = length l.merge.changes
