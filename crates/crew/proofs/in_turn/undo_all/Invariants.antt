use Rattle.std.proofs.Common.{◌≡◌, ◌+◌, ◌≤◌, ◌++◌, map, reverse, length}
use Rattle.std.specs.Prelude.{vec_capacity}
use Rattle.crew.proofs.in_turn.undo_all.Given as goal

-- the jobs of what is left to undo, and those that lie on the list, its top first, are all the jobs; there is room for
-- the rest
abbrev pub invariant-loop-done : goal.invariant-loop-done
invariant-loop-done g l = record {
  room : length l.jobs.items + length l.dones.items ≤ vec_capacity l.jobs;
  jobs : map g.W.Work.origin l.dones.items ++ map g.W.Work.held (reverse l.jobs.items) ≡ map g.W.Work.origin l.fn.dones.items ++ map g.W.Work.held l.fn.jobs.items;
}

abbrev pub decreases-loop-done : goal.decreases-loop-done
decreases-loop-done g l = length l.dones.items
