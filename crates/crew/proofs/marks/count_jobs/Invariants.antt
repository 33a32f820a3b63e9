use Rattle.std.proofs.Common.{◌≡◌, ◌+◌, drop, length, map}
use Rattle.crew.specs.Round.{joined}
use Rattle.crew.proofs.marks.count_jobs.Given as goal

-- the jobs so far, and those of the remaining pieces, are all jobs
abbrev pub invariant-loop-piece : goal.invariant-loop-piece
invariant-loop-piece g l =
    l.jobs + length (joined (map (λ piece. piece.items) (drop l.piece-index l.pieces))) ≡ length (joined (map (λ piece. piece.items) l.pieces))
