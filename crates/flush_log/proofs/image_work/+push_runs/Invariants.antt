use Rattle.std.proofs.Common.{length}
use Rattle.flush_log.proofs.image_work.+push_runs.Given as goal

abbrev pub decreases-push_runs : goal.decreases-push_runs
decreases-push_runs g l = length l.lists.now.runs
