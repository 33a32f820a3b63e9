use Rattle.split_plan.proofs.GroupSizes.{groups_by_class, groups_cut}
use Rattle.split_plan.proofs.laws.groups_are_found_by_classes.Goals as goal

pub returns : goal.returns
returns g c = record {
  classes = groups_by_class;
  sizes_cut = groups_cut;
}
