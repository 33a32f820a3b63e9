use Rattle.std.proofs.Common.{refl}
use Rattle.keys.proofs.RowLemmas.{same_pairs-decides}
use Rattle.keys.proofs.laws.equal_rows_are_the_same_pairs.Goals as goal

pub returns : goal.returns
returns c = record {
  itself = λ m. (same_pairs-decides m m).1 refl;
  exact = λ m n. (same_pairs-decides m n).0;
}
