use Rattle.std.proofs.Common.{length}
use Rattle.delta_chain.proofs.locators.+newest_of.Given as goal

abbrev pub decreases-newest_of : goal.decreases-newest_of
decreases-newest_of g l = length l.runs.now
