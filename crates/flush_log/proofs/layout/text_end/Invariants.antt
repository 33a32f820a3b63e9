use Rattle.std.proofs.Common.{drop}
use Rattle.flush_log.specs.Images.{frames_in, from_tail}
use Rattle.flush_log.proofs.ReachLemmas.{Walk}
use Rattle.flush_log.proofs.layout.text_end.Given as goal

-- the images before this one are walked over, and those from it on are the rest
abbrev pub invariant-loop-image : goal.invariant-loop-image
invariant-loop-image l = Walk l.settings (from_tail l.settings l.fn.tail) (frames_in l.images) l.reached (frames_in (drop l.image-index l.images))
