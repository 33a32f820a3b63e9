use Rattle.std.proofs.Common.{◌≤◌, ◌-◌, length, drop}
use Rattle.climb_plan.specs.Rewriting.{all_seen, groups_seen, OfLevelSeen}
use Rattle.climb_plan.proofs.RewritingLevel.{IsLeft}
use Rattle.climb_plan.proofs.family.rewrites.Given as goal

-- the families before this place are done
abbrev pub invariant-loop-low : goal.invariant-loop-low
invariant-loop-low l = record {
  most : l.done ≤ length l.seen;
  each : OfLevelSeen l.tree l.depth (all_seen l.seen) (λ all ps. IsLeft l.tree.table (all_seen (drop l.done l.seen)) all ps l.rewrites.parents.items (groups_seen l.rewrites.groups.items));
}

abbrev pub decreases-loop-low : goal.decreases-loop-low
decreases-loop-low l = length l.seen - l.done
