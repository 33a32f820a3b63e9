-- No key is below the empty key.
use Rattle.std.specs.Prelude.{◌≡◌, ℕ, ◌+◌, Bool, false, cond, List, [], ◌∷◌, length}
use Rattle.std.proofs.Common.{refl, sym, ap, ◌∙◌, arith}
use Rattle.std.specs.Ordering.{is_lt}
use Rattle.keys.specs.Order.{order}
use Rattle.page_search.specs.Places.{count_below}
use Rattle.page_search.proofs.PlaceLemmas.{count_below-cons}

pub none_below_empty : (j : List ℕ) → is_lt (order j []) ≡ false
none_below_empty [] = refl
none_below_empty (x ∷ xs) = refl

count_below-empty : (ks : List (List ℕ)) → count_below [] ks ≡ 0
count_below-empty [] = refl
count_below-empty (j ∷ ks) = count_below-cons [] j ks ∙ ap (λ (b : Bool). cond b 1 0 + count_below [] ks) (none_below_empty j) ∙ ap (λ (n : ℕ). 0 + n) (count_below-empty ks)

pub none_below : (k : List ℕ) (ks : List (List ℕ)) → length k ≡ 0 → 0 ≡ count_below k ks
none_below [] ks h = sym (count_below-empty ks)
none_below (x ∷ xs) ks h = absurd (omega arith)
