use Rattle.std.specs.Prelude.{⊤}
use Rattle.std.proofs.Common.{length}
use Rattle.scan.proofs.ends.room_after_wipe.Given as goal

abbrev pub invariant-loop-leaf : goal.invariant-loop-leaf
invariant-loop-leaf l = ⊤

abbrev pub decreases-loop-leaf : goal.decreases-loop-leaf
decreases-loop-leaf l = length l.leaves
