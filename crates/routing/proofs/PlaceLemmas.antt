-- Lemmas on places in a batch, for the proofs of this crate and of those above it.
use Rattle.std.proofs.Common.{◌≡◌, ℕ, zero, suc, ◌+◌, List, [], ◌∷◌, ◌++◌, ap, ◌∙◌, arith}
use Rattle.std.specs.List.{range_with_len}
use Rattle.std.proofs.lemmas.List.{map-append}
use Rattle.routing.specs.Keyed.{Keyed, places_of}

-- one more number after the others
pub range_push : (a n b : ℕ) → a + n ≡ b → range_with_len a (suc n) ≡ range_with_len a n ++ b ∷ []
range_push a zero b h = let e : a ≡ b = omega arith in ap (λ (i : ℕ). i ∷ []) e
range_push a (suc n) b h = let e : (a + 1) + n ≡ b = omega arith in ap (λ (is : List ℕ). a ∷ is) (range_push (a + 1) n b e)

-- numbers, and those after them
pub range-append : (a n m b k : ℕ) → a + n ≡ b → n + m ≡ k → range_with_len a n ++ range_with_len b m ≡ range_with_len a k
range-append a zero m b k h e = let s : b ≡ a = omega arith in let l : m ≡ k = omega arith in ap (λ (i : ℕ). range_with_len i m) s ∙ ap (range_with_len a) l
range-append a (suc n) m b zero h e = absurd (omega arith)
range-append a (suc n) m b (suc k) h e = ap (λ (is : List ℕ). a ∷ is) (range-append (a + 1) n m b k (omega arith) (omega arith))

-- two lists of keyed places, where the other begins where the first ends
pub places_joined : (xs ys all : List Keyed) (a n m b k : ℕ) → all ≡ xs ++ ys → places_of xs ≡ range_with_len a n → places_of ys ≡ range_with_len b m → a + n ≡ b → n + m ≡ k → places_of all ≡ range_with_len a k
places_joined xs ys all a n m b k e p q h l =
    ap (λ (x : List Keyed). places_of x) e ∙ map-append (λ (entry : Keyed). entry.1) xs ys ∙ rw (p, q) (range-append a n m b k h l)
