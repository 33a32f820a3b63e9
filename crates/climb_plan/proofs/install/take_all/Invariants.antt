use Rattle.std.proofs.Common.{◌≡◌, ◌+◌, ◌≤◌, ◌++◌, map, length, vec_len}
use Rattle.std.specs.Prelude.{vec_capacity}
use Rattle.std.specs.Vec.Iter.{into_iter_items}
use Rattle.page_runs.specs.TermWork.{term_held_of}
use Rattle.climb_plan.specs.Installing.{AreParentsHome, parent_held}
use Rattle.climb_plan.proofs.Installing.{tree_taken}
use Rattle.climb_plan.proofs.install.take_all.Given as goal

-- the remaining parents are in the table; the jobs so far and the rest hold what all held; the rest, taken from the tree now, is all taken from the
-- tree before; and there is room for the rest
abbrev pub invariant-loop-pid : goal.invariant-loop-pid
invariant-loop-pid l = record {
  home : AreParentsHome l.tree.table (map (λ t. t.0) (into_iter_items l.pid-iterator));
  held : map term_held_of l.jobs.items ++ map (parent_held l.tree.table) (into_iter_items l.pid-iterator) ≡ map (parent_held l.fn.tree.table) l.fn.termed.items;
  taken : tree_taken l.tree (map (λ t. t.0) (into_iter_items l.pid-iterator)) ≡ tree_taken l.fn.tree (map (λ t. t.0) l.fn.termed.items);
  room : vec_len l.jobs + length (into_iter_items l.pid-iterator) ≤ vec_capacity l.jobs;
}
