-- A new board satisfies the invariant.
use Rattle.std.proofs.Common.{◌≡◌, ℕ, zero, suc, min, cond, ltb, List, [], ◌∷◌, length, refl, sym, subst, arith}
use mathlib.Core.Option.{some, some-injective, some-ne-none}
use Rattle.std.proofs.lemmas.Bool.Decides.{nat_tests}
use lib.ListN.{get_elem?}
use Rattle.atomic_table.specs.Table.{opening}
use Rattle.atomic_table.proofs.Lists.{at_map}
use Rattle.claim_board.specs.declared.rule.PassState.{PassState}
use Rattle.claim_board.specs.declared.rule.Slot.{Slot}
use Rattle.claim_board.specs.Rule.{hand, slots_of, Fits, Keeps}

none_below : (x n : ℕ) → ◌≡◌ {A = ℕ} 0 (cond (ltb x (min 0 n)) 1 0)
none_below x n = grind (arith, nat_tests)

module _ {P : Type 0} (all : List P) (last : Slot P) (count : ℕ) where
  first_fits : Fits all 0 (hand all count [] 0)
  first_fits = record { same_pieces = λ _. refl; few_misses = omega arith; miss_past_end = λ d. absurd (omega arith); below = (λ i d l. absurd (omega arith)); spent = λ _. refl }

  only : (j : ℕ) (v u : PassState P) → get_elem? (v ∷ []) j ≡ some u → v ≡ u
  only zero v u e = some-injective v u e
  only (suc j) v u e = absurd (some-ne-none u (sym e))

  pub opens : Keeps all last count (opening (0 ∷ []) (slots_of all last) (hand all count [] 0))
  opens = record {
    one_word = refl;
    word_is = omega arith;
    once = λ x. none_below x (length all);
    many = omega arith;
    passes = omega arith;
    fits = λ j u e. subst (Fits all 0) (only j (hand all count [] 0) u e) first_fits;
    home = λ k y le e. at_map some (slots_of all last) k y e;
  }
