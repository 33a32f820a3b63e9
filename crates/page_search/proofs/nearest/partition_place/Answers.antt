use Rattle.page_search.proofs.NearestLemmas.{parts-goes_to, parts-there, parts-following}
use Rattle.page_search.proofs.WalkLemmas.{least_there, least_apart}
use Rattle.page_search.proofs.nearest.partition_place.Goals as goal

pub returns-in-UpTo : goal.returns-in-UpTo
returns-in-UpTo g c = record {
  place = parts-following _ _ _ _ c.place.ensures.rising c.in-Ok.ensures.place c.in-UpTo.is;
  cost = c.in-Ok.ensures.cost;
  least = least_there _ _ _ _ _ _ c.in-Ok.ensures.place c.in-Ok.ensures.least;
  kept = c.in-Ok.ensures.kept;
}

pub returns-in-Below-clause-place : goal.returns-in-Below-clause-place
returns-in-Below-clause-place g c = parts-there _ _ _ _ c.place.ensures.rising c.in-Ok.ensures.place c.in-Below.is

pub returns-in-Below-clause-least : goal.returns-in-Below-clause-least
returns-in-Below-clause-least g c = least_there _ _ _ _ _ _ c.in-Ok.ensures.place c.in-Ok.ensures.least

pub returns-in-Err-clause-place : goal.returns-in-Err-clause-place
returns-in-Err-clause-place g c = parts-goes_to c.args.side _ _ _ c.in-Err.ensures.place

pub returns-in-Err-clause-least : goal.returns-in-Err-clause-least
returns-in-Err-clause-least g c = least_apart _ _ _ _ _ _ c.in-Err.ensures.place c.in-Err.ensures.least
