use Rattle.keys.proofs.MapLemmas.{same_map}
use Rattle.keys.proofs.laws.a_map_is_what_it_has.Goals as goal

pub returns : goal.returns
returns g c = same_map
