use Rattle.std.proofs.Common.{◌≡◌, map}
use Rattle.std.specs.Vec.Iter.{into_iter_items}
use Rattle.climb_plan.specs.Installing.{AreAway}
use Rattle.climb_plan.proofs.Installing.{tree_put}
use Rattle.engine.specs.Tasks.{task_held, taken_of, under_pids}
use Rattle.engine.proofs.leaves.put_back.Given as goal

-- the places of the leaves in the remaining tasks are empty; putting these into the tree now equals putting all into the tree before
abbrev pub invariant-loop-task : goal.invariant-loop-task
invariant-loop-task l = record {
  away : AreAway l.tree.table (map (λ h. h.route.pid) (taken_of (map task_held (into_iter_items l.task-iterator))));
  put : tree_put l.tree (under_pids (taken_of (map task_held (into_iter_items l.task-iterator)))) ≡ tree_put l.fn.tree (under_pids (taken_of (map task_held l.fn.tasks.items)));
}
