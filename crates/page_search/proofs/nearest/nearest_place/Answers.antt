use Rattle.std.proofs.Common.{arith}
use Rattle.page_search.proofs.NearestLemmas.{first_above, none_above, last_place}
use Rattle.page_search.proofs.nearest.nearest_place.Goals as goal

pub returns-in-Above-clause-place : goal.returns-in-Above-clause-place
returns-in-Above-clause-place g c =
    let here = c.in-Above.is in
    rw here (first_above c.args.key.now _ _ c.len-count.ensures.rising (rw here at c.partition_place-cut.ensures.place) (omega arith))

pub returns-in-Above-2-clause-place : goal.returns-in-Above-2-clause-place
returns-in-Above-2-clause-place g c =
    let here = c.in-Above.is in
    rw here (none_above c.args.key.now _ _ c.len-count.ensures.rising (rw here at c.partition_place-cut.ensures.place) (omega arith))

pub returns-in-UpTo : goal.returns-in-UpTo
returns-in-UpTo g c = record {
  place = last_place _ _ _ _ _ c.in-UpTo.is c.len-count.ensures.rising c.checked_sub.ensures c.partition_place-cut.ensures.place;
  rising = c.len-count.ensures.rising;
  cost = c.partition_place-cut.ensures.cost;
  least = c.partition_place-cut.ensures.least;
  kept = c.partition_place-cut.ensures.kept;
}
