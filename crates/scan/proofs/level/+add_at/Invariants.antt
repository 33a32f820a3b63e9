use Rattle.std.proofs.Common.{length}
use Rattle.scan.proofs.level.+add_at.Given as goal

abbrev pub decreases-add_at : goal.decreases-add_at
decreases-add_at l = length l.levels.now
