use Rattle.std.proofs.Common.{◌≡◌, map}
use Rattle.std.specs.Vec.Iter.{into_iter_items}
use Rattle.climb_plan.specs.Installing.{AreAway}
use Rattle.climb_plan.proofs.Installing.{tree_put}
use Rattle.climb_plan.proofs.install.undo_parents.Given as goal

-- the places of the remaining parents are empty; putting these into the tree now equals putting all into the tree before
abbrev pub invariant-loop-parent : goal.invariant-loop-parent
invariant-loop-parent l = record {
  away : AreAway l.tree.table (map (λ d. d.held.pid) (into_iter_items l.parent-iterator));
  put : tree_put l.tree (map (λ d. (d.held.pid, d.held.page)) (into_iter_items l.parent-iterator)) ≡ tree_put l.fn.tree (map (λ d. (d.held.pid, d.held.page)) l.fn.parents.items);
}
