use Rattle.std.proofs.Common.{drop}
use Rattle.flush_log.proofs.ReachLemmas.{Walk}
use Rattle.flush_log.proofs.layout.after_image.Given as goal

-- the frames before this place are walked over, and those from it on are the rest
abbrev pub invariant-loop-at : goal.invariant-loop-at
invariant-loop-at l = Walk l.settings l.fn.end l.image l.reached (drop l.at l.image)
