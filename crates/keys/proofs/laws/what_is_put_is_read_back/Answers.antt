use Rattle.keys.proofs.MapLemmas.{value_at-with_pair_here, value_at-with_pair_elsewhere, rising-with_pair}
use Rattle.keys.proofs.laws.what_is_put_is_read_back.Goals as goal

pub returns : goal.returns
returns g c = record {
  here = value_at-with_pair_here;
  elsewhere = value_at-with_pair_elsewhere;
  rising = rising-with_pair;
}
