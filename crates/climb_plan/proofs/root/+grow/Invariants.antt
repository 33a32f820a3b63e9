use Rattle.std.proofs.Common.{◌-◌}
use Rattle.climb_plan.proofs.root.+grow.Given as goal

-- there are 64 levels at the most
abbrev pub decreases-grow : goal.decreases-grow
decreases-grow l = 64 - l.height
