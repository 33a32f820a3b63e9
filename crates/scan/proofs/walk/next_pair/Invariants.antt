use Rattle.std.proofs.Common.{◌≡◌, length}
use Rattle.scan.specs.Walk.{pairs_along}
use Rattle.scan.proofs.walk.next_pair.Given as goal

-- the remaining pairs of the leaf and of the leaves after it are the same as at the beginning
abbrev pub invariant-loop-pair : goal.invariant-loop-pair
invariant-loop-pair g l = pairs_along g.W.Towards.direction l.leaf l.leaves ≡ pairs_along g.W.Towards.direction l.initial.leaf l.initial.leaves

abbrev pub decreases-loop-pair : goal.decreases-loop-pair
decreases-loop-pair g l = length l.leaves
