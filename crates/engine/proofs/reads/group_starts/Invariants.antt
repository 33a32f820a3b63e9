use Rattle.std.proofs.Common.{◌-◌, ◌≡◌, List, length, map, take, ◌≤◌}
use Rattle.keys.specs.Lists.{flat}
use Rattle.routing.specs.Routes.{Route}
use Rattle.engine.specs.GroupReads.{group_at}
use Rattle.engine.proofs.reads.group_starts.Given as goal

-- the groups so far are the routes before the next group
abbrev pub invariant-loop-start : goal.invariant-loop-start
invariant-loop-start l = record {
  groups : (rs : List Route) → length rs ≡ l.count → flat (map (group_at rs) l.starts.items) ≡ take l.start rs;
  within : l.start ≤ l.count;
}

abbrev pub decreases-loop-start : goal.decreases-loop-start
decreases-loop-start l = l.count - l.start
