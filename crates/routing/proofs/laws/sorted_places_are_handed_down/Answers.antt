use Rattle.routing.proofs.SliceLemmas.{sorted_within_all, none_reach, parted_at, onward, in_batch_order}
use Rattle.routing.proofs.laws.sorted_places_are_handed_down.Goals as goal

pub returns : goal.returns
returns g c = record {
  all = sorted_within_all;
  none = none_reach;
  parted = parted_at;
  onward = onward;
  in_batch_order = in_batch_order;
}
