use Rattle.std.proofs.Common.{length}
use Rattle.page_search.proofs.nearest.+nearest_named.Given as goal

abbrev pub decreases-nearest_named : goal.decreases-nearest_named
decreases-nearest_named g l = length l.lists.now.runs
