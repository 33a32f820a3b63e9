use Rattle.std.proofs.Common.{◌≡◌, map}
use Rattle.std.specs.Vec.Iter.{into_iter_items}
use Rattle.climb_plan.specs.Installing.{AreAway}
use Rattle.climb_plan.proofs.Installing.{tree_put}
use Rattle.engine.proofs.leaves.undo_leaves.Given as goal

-- the places of the remaining leaves are empty; putting these into the tree now equals putting all into the tree before
abbrev pub invariant-loop-leaf : goal.invariant-loop-leaf
invariant-loop-leaf l = record {
  away : AreAway l.tree.table (map (λ d. d.held.route.pid) (into_iter_items l.leaf-iterator));
  put : tree_put l.tree (map (λ d. (d.held.route.pid, d.held.page)) (into_iter_items l.leaf-iterator)) ≡ tree_put l.fn.tree (map (λ d. (d.held.route.pid, d.held.page)) l.fn.leaves.items);
}
