use Rattle.std.proofs.Common.{◌≡◌, ◌+◌, ◌≤◌, ◌++◌, reverse, length}
use Rattle.std.specs.Prelude.{vec_capacity}
use Rattle.crew.specs.Pieces.{jobs_of}
use Rattle.crew.proofs.pieces.put_together.Given as goal

-- the jobs on the list, and those of the remaining pieces, their top first, are all
abbrev pub invariant-loop-piece : goal.invariant-loop-piece
invariant-loop-piece g l = record {
  room : length l.jobs.items + length (jobs_of (reverse l.pieces.items)) ≤ vec_capacity l.jobs;
  jobs : l.jobs.items ++ jobs_of (reverse l.pieces.items) ≡ l.initial.jobs.items ++ jobs_of l.fn.pieces.items;
  same : vec_capacity l.initial.jobs ≤ vec_capacity l.jobs;
}

abbrev pub decreases-loop-piece : goal.decreases-loop-piece
decreases-loop-piece g l = length l.pieces.items
