use Rattle.split_plan.proofs.ChangeLemmas.{rewritten_for_its_members}
use Rattle.split_plan.proofs.laws.a_group_is_rewritten_for_its_members.Goals as goal

pub returns : goal.returns
returns g c = rewritten_for_its_members
