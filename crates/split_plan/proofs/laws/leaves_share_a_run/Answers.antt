use Rattle.split_plan.proofs.RunLemmas.{joined-updated_leaves}
use Rattle.split_plan.proofs.laws.leaves_share_a_run.Goals as goal

pub returns : goal.returns
returns g c = joined-updated_leaves
