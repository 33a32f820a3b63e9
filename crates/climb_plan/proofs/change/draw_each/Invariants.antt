use Rattle.std.proofs.Common.{◌≡◌, ◌++◌, take, drop}
use Rattle.mapping.specs.Table.{pids_in_use, with_rooms, fresh_pids}
use Rattle.climb_plan.specs.Rewriting.{with_numbers, numbers}
use Rattle.climb_plan.proofs.change.draw_each.Given as goal

-- the groups before the place have their numbers, and the others are unchanged
abbrev pub invariant-loop-at : goal.invariant-loop-at
invariant-loop-at l = record {
  groups : l.all ≡ with_numbers (pids_in_use l.initial.tree.table) 0 (take l.at l.initial.all) ++ drop l.at l.initial.all;
  tree : l.tree ≡ record l.initial.tree { table = with_rooms l.initial.tree.table (fresh_pids (pids_in_use l.initial.tree.table) (numbers (take l.at l.initial.all))) };
}
