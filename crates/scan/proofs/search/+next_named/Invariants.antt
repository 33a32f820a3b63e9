use Rattle.std.proofs.Common.{length}
use Rattle.scan.proofs.search.+next_named.Given as goal

abbrev pub decreases-next_named : goal.decreases-next_named
decreases-next_named g l = length l.lists.now.runs
