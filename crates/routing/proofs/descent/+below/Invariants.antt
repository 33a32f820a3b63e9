use Rattle.std.proofs.Common.{◌+◌, ◌*◌}
use Rattle.routing.proofs.descent.+below.Given as goal

abbrev pub decreases-runs_below : goal.decreases-runs_below
decreases-runs_below g l = 3 * (l.levels + l.workers) + 2

abbrev pub decreases-runs_of_both : goal.decreases-runs_of_both
decreases-runs_of_both g l = 3 * (l.levels + l.workers) + 1

abbrev pub decreases-runs_of_both-front : goal.decreases-runs_of_both-front
decreases-runs_of_both-front g l = 3 * (l.levels + l.few) + 3

abbrev pub decreases-runs_of_both-back : goal.decreases-runs_of_both-back
decreases-runs_of_both-back g l = 3 * (l.levels + l.others) + 3
