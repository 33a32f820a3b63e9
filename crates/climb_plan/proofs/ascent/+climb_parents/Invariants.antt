-- Proof for climb_parents of ascent.rt.
use Rattle.climb_plan.proofs.ascent.+climb_parents.Given as goal

abbrev pub decreases-climb_parents : goal.decreases-climb_parents
decreases-climb_parents g l = l.depth
