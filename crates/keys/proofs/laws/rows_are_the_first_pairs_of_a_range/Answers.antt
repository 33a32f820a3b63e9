use Rattle.std.proofs.Common.{refl}
use Rattle.keys.proofs.RangeLemmas.{rising-rows, held_rows, row_or_after, at_most_rows, no_rows}
use Rattle.keys.proofs.laws.rows_are_the_first_pairs_of_a_range.Goals as goal

pub returns : goal.returns
returns g c = record {
  rising = rising-rows;
  held = λ m lo hi limit k v r h. held_rows m lo hi limit k v h;
  none_left_out = row_or_after;
  at_most = at_most_rows;
  empty_range = no_rows;
  no_limit_left = λ m lo hi. refl;
}
