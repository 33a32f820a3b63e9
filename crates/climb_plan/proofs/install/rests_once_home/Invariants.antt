use Rattle.std.proofs.Common.{◌≡◌, map}
use Rattle.std.specs.Vec.Iter.{into_iter_items}
use Rattle.climb_plan.specs.Installing.{AreAway}
use Rattle.climb_plan.proofs.Installing.{tree_home}
use Rattle.climb_plan.proofs.install.rests_once_home.Given as goal

-- the places of the remaining pages are empty; putting these into the tree now equals putting all into the tree before
abbrev pub invariant-loop-done : goal.invariant-loop-done
invariant-loop-done g l = record {
  away : AreAway l.tree.table (map (λ d. (g.D.UpdatedPage.seen_page d).pid) (into_iter_items l.done-iterator));
  home : tree_home l.tree (map g.D.UpdatedPage.seen_page (into_iter_items l.done-iterator)) ≡ tree_home l.fn.tree (map g.D.UpdatedPage.seen_page l.fn.dones.items);
}
