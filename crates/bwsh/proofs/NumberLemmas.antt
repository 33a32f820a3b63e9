-- Lemmas on numbers.
use Rattle.std.proofs.Common.{rules, arith, ◌≡◌, ◌<◌, ◌^◌, ℕ, Bool, true, false, List, length, nat_eq, Some, None, Result, Ok, Err, refl, ap, ◌∙◌, sym, subst}
use Rattle.std.specs.Prelude.{nat_le}
use Rattle.std.specs.Char.{is_ascii_digit}
use Rattle.std.specs.List.{list_all}
use Rattle.std.specs.Result.{OkIff, result_ok}
use Rattle.std.specs.Str.{IsUtf8}
use Rattle.std.specs.Str.Parse.{ParsesUnsigned, digits_value}
use Rattle.std.proofs.lemmas.Bool.Decides.{nat_tests}
use Rattle.std.proofs.lemmas.Fmt.{IsAscii-from_digits}
use Rattle.std.proofs.lemmas.Str.{IsUtf8-from_ascii}
use Rattle.std.proofs.lemmas.Str.Parse.{IsNumeralModel, numerals_by_value, parse_digits}
use Rattle.bwsh.specs.Number.{number_in}

own : IsNumeralModel (λ ds. list_all is_ascii_digit ds ≡ true) (digits_value 10)
own = numerals_by_value _ (search rules)

-- digits are text
pub IsUtf8-digits : (word : List ℕ) → list_all is_ascii_digit word ≡ true → IsUtf8 word
IsUtf8-digits word digits = IsUtf8-from_ascii word (IsAscii-from_digits word (own.to word digits))

module _ (word : List ℕ) (digits : list_all is_ascii_digit word ≡ true) where
  -- the texts that are numbers for the parser of a `u32`
  within : 0 < length word → digits_value 10 word < 2 ^ 32 → number_in word ≡ Some (digits_value 10 word)
  within some small =
      let not_empty : nat_eq (length word) 0 ≡ false = grind (arith, nat_tests) in
      let low : nat_le (digits_value 10 word) 4294967295 ≡ true = grind (arith, nat_tests) in
      rw (not_empty, digits, low) refl

  beyond_by : (empty low : Bool) → nat_eq (length word) 0 ≡ empty → nat_le (digits_value 10 word) 4294967295 ≡ low
      → ((0 < length word) × (digits_value 10 word < 2 ^ 32) → ⊥) → number_in word ≡ None
  beyond_by true low e l not_so = rw e refl
  beyond_by false false e l not_so = rw (e, digits, l) refl
  beyond_by false true e l not_so = absurd (not_so (grind (arith, nat_tests), grind (arith, nat_tests)))

  by : {E : Type 0} (r : Result ℕ E) → OkIff r ((0 < length word) × (digits_value 10 word < 2 ^ 32)) (digits_value 10 word) → result_ok r ≡ number_in word
  by (Ok n) ((some, small), is) = ap (λ (m : ℕ). Some m) is ∙ sym (within some small)
  by (Err e) not_so = sym (beyond_by (nat_eq (length word) 0) (nat_le (digits_value 10 word) 4294967295) refl refl not_so)

  -- the result of the parser for the same text
  pub number_in-parsed : {E : Type 0} (text : List ℕ) (r : Result ℕ E) → text ≡ word → ParsesUnsigned 32 10 text r → result_ok r ≡ number_in word
  number_in-parsed {E} text r same parsed = by r (parse_digits own 32 word r (subst (λ (t : List ℕ). ParsesUnsigned 32 10 t r) same parsed) digits)
