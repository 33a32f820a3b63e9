use Rattle.routing.proofs.SortLemmas.{same_sorted_places}
use Rattle.routing.proofs.laws.sorted_places_are_determined.Goals as goal

pub returns : goal.returns
returns g c = same_sorted_places
