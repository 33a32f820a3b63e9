use Rattle.std.proofs.Common.{◌≡◌, ◌+◌, ◌-◌, ◌≤◌, ◌++◌, drop, length, vec_len}
use Rattle.std.specs.Prelude.{vec_capacity}
use Rattle.climb_plan.specs.Installing.{pages_under}
use Rattle.climb_plan.proofs.Installing.{AreAllAtHome, tree_freed}
use Rattle.climb_plan.proofs.install.take_others.Given as goal

-- the remaining pages are in the table; the pages so far and these are all; the tree now without these is the tree before without all; and there is
-- room for the rest
abbrev pub invariant-loop-pid : goal.invariant-loop-pid
invariant-loop-pid l = record {
  home : AreAllAtHome l.tree.table (drop l.pid-index l.pids);
  pages : l.pages.items ++ pages_under l.tree.table (drop l.pid-index l.pids) ≡ l.fn.pages.items ++ pages_under l.fn.tree.table l.fn.pids;
  freed : tree_freed l.tree (drop l.pid-index l.pids) ≡ tree_freed l.fn.tree l.fn.pids;
  room : vec_len l.pages + (length l.pids - l.pid-index) ≤ vec_capacity l.pages;
}
