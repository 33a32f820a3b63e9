use Rattle.split_plan.proofs.CutLemmas.{cut-joined, length-cut, cut_at_most, cut_at_least}
use Rattle.split_plan.proofs.laws.pieces_are_the_entries.Goals as goal

pub returns : goal.returns
returns g c = record {
  joined = cut-joined;
  count = length-cut;
  most = cut_at_most;
  least = cut_at_least;
}
