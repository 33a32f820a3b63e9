use Rattle.std.proofs.Common.{◌≡◌, length}
use Rattle.scan.specs.Walk.{IsWalk, walk_ahead}
use Rattle.scan.proofs.leaves.next_leaf.Given as goal

-- the rest of the path leads to the same leaves as the path at the beginning
abbrev pub invariant-loop-step : goal.invariant-loop-step
invariant-loop-step g l = record {
  walk : IsWalk l.tree l.path;
  leaves : walk_ahead g.W.Towards.direction l.tree l.path.items ≡ walk_ahead g.W.Towards.direction l.tree l.initial.path.items;
}

abbrev pub decreases-loop-step : goal.decreases-loop-step
decreases-loop-step g l = length l.path.items
