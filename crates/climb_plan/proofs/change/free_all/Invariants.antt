use Rattle.std.proofs.Common.{◌≡◌, drop}
use Rattle.mapping.specs.Table.{freed_all}
use Rattle.climb_plan.specs.Installing.{AreAway}
use Rattle.climb_plan.proofs.change.free_all.Given as goal

-- the later places are still empty, and after they are freed too, all are
abbrev pub invariant-loop-pid : goal.invariant-loop-pid
invariant-loop-pid l = record {
  away : AreAway l.tree.table (drop l.pid-index l.pids);
  freed : record l.tree { table = freed_all l.tree.table (drop l.pid-index l.pids) } ≡ record l.initial.tree { table = freed_all l.initial.tree.table l.pids };
}
