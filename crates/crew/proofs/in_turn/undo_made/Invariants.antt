use Rattle.std.proofs.Common.{◌≡◌, ◌+◌, ◌≤◌, ◌++◌, map, reverse, length}
use Rattle.std.specs.Prelude.{vec_capacity}
use Rattle.crew.proofs.in_turn.undo_made.Given as goal

-- the jobs on the list, and those of what is left to undo, its top first, are all
abbrev pub invariant-loop-done : goal.invariant-loop-done
invariant-loop-done g l = record {
  room : length l.jobs.items + length l.dones.items ≤ vec_capacity l.jobs;
  jobs : map g.W.Work.held l.jobs.items ++ map g.W.Work.origin (reverse l.dones.items) ≡ map g.W.Work.held l.initial.jobs.items ++ map g.W.Work.origin (reverse l.initial.dones.items);
  same : (vec_capacity l.jobs ≡ vec_capacity l.initial.jobs) × (vec_capacity l.dones ≡ vec_capacity l.initial.dones);
}

abbrev pub decreases-loop-done : goal.decreases-loop-done
decreases-loop-done g l = length l.dones.items
