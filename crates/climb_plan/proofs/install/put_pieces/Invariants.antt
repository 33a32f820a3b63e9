use Rattle.std.proofs.Common.{◌≡◌, map, drop}
use Rattle.std.specs.Vec.Iter.{into_iter_items}
use Rattle.index_page.specs.InMemory.{page_shown}
use Rattle.climb_plan.specs.Installing.{AreAway}
use Rattle.climb_plan.proofs.Installing.{tree_under}
use Rattle.climb_plan.proofs.install.put_pieces.Given as goal

-- the remaining places are empty; putting the remaining pages into the tree now equals putting all into the tree before
abbrev pub invariant-loop-pid : goal.invariant-loop-pid
invariant-loop-pid l = record {
  away : AreAway l.tree.table (drop l.pid-index l.pids);
  put : tree_under l.tree (drop l.pid-index l.pids) (map (λ page. page_shown page.value) (into_iter_items l.rest)) ≡ tree_under l.fn.tree l.fn.pids (map (λ page. page_shown page.value) (into_iter_items l.fn.pages));
}
