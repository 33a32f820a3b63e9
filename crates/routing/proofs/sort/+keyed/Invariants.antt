use Rattle.std.proofs.Common.{◌+◌, ◌*◌}
use Rattle.routing.proofs.sort.+keyed.Given as goal

abbrev pub decreases-keyed_places : goal.decreases-keyed_places
decreases-keyed_places g l = 2 * l.workers

abbrev pub decreases-front : goal.decreases-front
decreases-front g l = 2 * l.few + 1

abbrev pub decreases-back : goal.decreases-back
decreases-back g l = 2 * l.others + 1
