use Rattle.std.proofs.Common.{◌≡◌, ◌+◌, ◌≤◌, ◌++◌, map, length, vec_len}
use Rattle.std.specs.Prelude.{vec_capacity}
use Rattle.std.specs.Vec.Iter.{into_iter_items}
use Rattle.climb_plan.proofs.Installing.{tree_taken}
use Rattle.engine.specs.Leaves.{route_pids, written_routes, AreLeavesHome}
use Rattle.engine.specs.Tasks.{task_for, task_held}
use Rattle.engine.proofs.leaves.take_leaves.Given as goal

-- the remaining leaves are in the table; the tasks so far and the rest hold what all held; checking out those of the rest that may be changed from
-- the tree now equals checking out all of them from the tree before; and there is room for the rest
abbrev pub invariant-loop-page_run : goal.invariant-loop-page_run
invariant-loop-page_run l = record {
  home : AreLeavesHome l.tree.table (route_pids (into_iter_items l.page_run-iterator));
  held : map task_held l.tasks.items ++ map (task_for l.tree.table l.work.commands.now) (into_iter_items l.page_run-iterator) ≡ map (task_for l.fn.tree.table l.work.commands.now) l.fn.page_runs.items;
  taken : tree_taken l.tree (route_pids (written_routes l.work.commands.now (into_iter_items l.page_run-iterator))) ≡ tree_taken l.fn.tree (route_pids (written_routes l.work.commands.now l.fn.page_runs.items));
  room : vec_len l.tasks + length (into_iter_items l.page_run-iterator) ≤ vec_capacity l.tasks;
}
