use Rattle.std.proofs.Common.{◌≡◌, ◌+◌, ◌*◌, ◌≤◌, ◌++◌, reverse, length}
use Rattle.std.specs.Prelude.{vec_capacity}
use Rattle.std.specs.Int.{div_ceil}
use Rattle.crew.specs.Pieces.{jobs_of}
use Rattle.crew.proofs.pieces.cut.Given as goal

-- the remaining jobs, and those of the pieces, are all; there is room for the pieces of the rest
abbrev pub invariant-loop-jobs : goal.invariant-loop-jobs
invariant-loop-jobs g l = record {
  jobs : l.jobs.items ++ jobs_of (reverse l.pieces.items) ≡ l.initial.jobs.items;
  room : (rest : _) × (length l.pieces.items + rest ≡ vec_capacity l.pieces) × (length l.jobs.items ≤ rest * l.grain);
  exact : vec_capacity l.pieces ≡ div_ceil (length l.initial.jobs.items) l.grain;
  same : vec_capacity l.initial.jobs ≤ vec_capacity l.jobs;
}

abbrev pub decreases-loop-jobs : goal.decreases-loop-jobs
decreases-loop-jobs g l = length l.jobs.items
