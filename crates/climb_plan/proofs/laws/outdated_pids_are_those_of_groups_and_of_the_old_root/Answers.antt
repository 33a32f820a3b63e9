use Rattle.climb_plan.proofs.InUse.{outdated_in_use}
use Rattle.climb_plan.proofs.OutdatedPids.{outdated_in_plan, outdated_on_top, outdated_below}
use Rattle.climb_plan.proofs.laws.outdated_pids_are_those_of_groups_and_of_the_old_root.Goals as goal

pub returns : goal.returns
returns g c = record {
  plan = outdated_in_plan;
  in_use = λ s t cs pid proper h. outdated_in_use s t cs pid proper h;
  top = outdated_on_top;
  below = outdated_below;
}
