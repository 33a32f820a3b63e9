-- Proof for lower_root of shrink.rt.
use Rattle.climb_plan.proofs.Installing.{taken_here}
use Rattle.climb_plan.proofs.shrink.lower_root.Goals as goal

pub free-requires : goal.free-requires
free-requires c = taken_here c.args.tree.now _ _ c.take-gone.ensures.tree
