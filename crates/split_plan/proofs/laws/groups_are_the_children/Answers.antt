use Rattle.split_plan.proofs.GroupLemmas.{groups-joined, one_in_each_group, later_groups_begin, all_thin_are_one_group}
use Rattle.split_plan.proofs.laws.groups_are_the_children.Goals as goal

pub returns : goal.returns
returns g c = record {
  joined = groups-joined;
  one = one_in_each_group;
  later = later_groups_begin;
  thin = all_thin_are_one_group;
}
