use Rattle.keys.proofs.MapLemmas.{value_at-without_here, value_at-without_elsewhere, rising-without}
use Rattle.keys.proofs.laws.what_is_deleted_is_missing.Goals as goal

pub returns : goal.returns
returns g c = record {
  here = value_at-without_here;
  elsewhere = value_at-without_elsewhere;
  rising = rising-without;
}
