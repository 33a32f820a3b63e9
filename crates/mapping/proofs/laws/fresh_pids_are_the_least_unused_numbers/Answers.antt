use Rattle.mapping.proofs.PidLemmas.{unused-is_free, unused-rises, unused-leaves_none, unused-drawn}
use Rattle.mapping.proofs.laws.fresh_pids_are_the_least_unused_numbers.Goals as goal

pub returns : goal.returns
returns c = record {
  free = unused-is_free;
  rising = unused-rises;
  least = unused-leaves_none;
  drawn = unused-drawn;
}
