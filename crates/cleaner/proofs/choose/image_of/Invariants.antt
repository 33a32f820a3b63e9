use Rattle.std.proofs.Common.{length}
use Rattle.cleaner.proofs.ChooseLemmas.{IsImageUpto}
use Rattle.cleaner.proofs.choose.image_of.Given as goal

-- the image of the frames before the remaining bytes
abbrev pub invariant-loop-rest : goal.invariant-loop-rest
invariant-loop-rest l = IsImageUpto l.format l.frames l.image l.rest

abbrev pub decreases-loop-rest : goal.decreases-loop-rest
decreases-loop-rest l = length l.rest
