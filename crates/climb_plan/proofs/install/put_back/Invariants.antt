use Rattle.std.proofs.Common.{◌≡◌, map}
use Rattle.std.specs.Vec.Iter.{into_iter_items}
use Rattle.climb_plan.specs.Installing.{AreAway}
use Rattle.climb_plan.proofs.Installing.{tree_put}
use Rattle.climb_plan.proofs.install.put_back.Given as goal

-- the places of the remaining jobs are empty; putting these into the tree now equals putting all into the tree before
abbrev pub invariant-loop-job : goal.invariant-loop-job
invariant-loop-job l = record {
  away : AreAway l.tree.table (map (λ j. j.pid) (into_iter_items l.job-iterator));
  put : tree_put l.tree (map (λ j. (j.pid, j.page)) (into_iter_items l.job-iterator)) ≡ tree_put l.fn.tree (map (λ j. (j.pid, j.page)) l.fn.jobs.items);
}
