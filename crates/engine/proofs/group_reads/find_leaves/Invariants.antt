use Rattle.std.proofs.Common.{◌≡◌, ◌≤◌, map, take, length}
use Rattle.std.specs.Prelude.{vec_capacity}
use Rattle.std.specs.List.{AllByRecursion}
use Rattle.page_runs.specs.Reads.{route_answers}
use Rattle.page_runs.specs.Replies.{ArePlacesOf}
use Rattle.engine.specs.GroupReads.{group_leaf_answers}
use Rattle.engine.proofs.group_reads.find_leaves.Given as goal

-- the leaves so far are those of the first routes, and there is room for the others
abbrev pub invariant-loop-page_run : goal.invariant-loop-page_run
invariant-loop-page_run l = record {
  places : AllByRecursion (λ leaf. ArePlacesOf l.commands leaf.page_run.now.places) l.leaves.items;
  answers : map (group_leaf_answers l.commands) l.leaves.items ≡ map (route_answers l.tree l.commands) (take l.page_run-index l.page_runs);
  count : length l.leaves.items ≡ l.page_run-index;
  room : length l.page_runs ≤ vec_capacity l.leaves;
}
