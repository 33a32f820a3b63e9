use Rattle.mapping.proofs.PidLemmas.{rising-with_number, among-with_number}
use Rattle.mapping.proofs.laws.a_number_taken_into_use_is_one_more.Goals as goal

pub returns : goal.returns
returns c = record {
  rising = λ used n. rising-with_number n used;
  among = λ used m n. among-with_number m n used;
}
