-- Proof for shrink of shrink.rt.
use Rattle.climb_plan.proofs.Shrinking.{AreOnTheWay}
use Rattle.climb_plan.proofs.shrink.shrink.Given as goal

-- the remaining work has the result of the whole work
abbrev pub invariant-loop-tree : goal.invariant-loop-tree
invariant-loop-tree l = AreOnTheWay l.fn.tree l.tree

abbrev pub decreases-loop-tree : goal.decreases-loop-tree
decreases-loop-tree l = l.tree.height
