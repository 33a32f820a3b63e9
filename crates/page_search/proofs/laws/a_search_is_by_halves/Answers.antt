use Rattle.std.proofs.Common.{◌+◌, ◌/◌, arith}
use Rattle.page_search.proofs.DigitLemmas.{binary_digits-twice, power-digits-of_half, below-power-digits-of_half}
use Rattle.page_search.proofs.laws.a_search_is_by_halves.Goals as goal

pub returns : goal.returns
returns c = record {
  no_less = power-digits-of_half;
  no_more = below-power-digits-of_half;
  close = λ n. binary_digits-twice ((n + 1) / 2) n (omega arith);
}
