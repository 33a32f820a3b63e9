use Rattle.split_plan.proofs.ChangeLemmas.{joined-groups, tiled-groups, next_low-groups}
use Rattle.split_plan.proofs.laws.what_is_made_of_groups_has_their_entries.Goals as goal

pub returns : goal.returns
returns g c = record {
  entries = joined-groups;
  tiled = tiled-groups;
  first = next_low-groups;
}
