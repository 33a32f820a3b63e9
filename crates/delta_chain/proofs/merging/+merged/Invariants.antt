use Rattle.std.proofs.Common.{length}
use Rattle.delta_chain.proofs.merging.+merged.Given as goal

abbrev pub decreases-merged : goal.decreases-merged
decreases-merged g l = length l.runs.now
