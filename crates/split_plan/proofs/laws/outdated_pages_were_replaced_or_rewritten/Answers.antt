use Rattle.split_plan.proofs.OutdatedLemmas.{outdated_members, outdated_of_groups, outdated_of_families}
use Rattle.split_plan.proofs.laws.outdated_pages_were_replaced_or_rewritten.Goals as goal

pub returns : goal.returns
returns g c = record {
  members = outdated_members;
  family = outdated_of_groups;
  level = outdated_of_families;
}
