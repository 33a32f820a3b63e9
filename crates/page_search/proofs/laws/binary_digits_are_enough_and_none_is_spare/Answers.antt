use Rattle.page_search.proofs.DigitLemmas.{below-power-binary_digits, power-binary_digits-to_twice, binary_digits-zero}
use Rattle.page_search.proofs.laws.binary_digits_are_enough_and_none_is_spare.Goals as goal

pub returns : goal.returns
returns c = record {
  enough = below-power-binary_digits;
  none_spare = power-binary_digits-to_twice;
  none_for_zero = binary_digits-zero;
}
