use Rattle.std.proofs.Common.{length}
use Rattle.recovery.specs.Rebuild.{page_of_parts}
use Rattle.recovery.proofs.RebuildLemmas.{IsDecidedUpto}
use Rattle.recovery.proofs.rebuild.rebuild.Given as goal

-- the frames before the remaining bytes form the page so far
abbrev pub invariant-loop-rest : goal.invariant-loop-rest
invariant-loop-rest l = IsDecidedUpto l.format l.frames (page_of_parts l.page) l.rest

abbrev pub decreases-loop-rest : goal.decreases-loop-rest
decreases-loop-rest l = length l.rest
