-- A list with one element put at a place, in which a range of at most one element was.
use Rattle.std.specs.Prelude.{◌≡◌, ℕ, zero, suc, ◌+◌, ◌<◌, ◌≤◌, List, [], ◌∷◌, ◌++◌, length, take, drop, set}
use Rattle.std.proofs.Common.{refl, ap, ◌∙◌, arith}
use Rattle.std.proofs.lemmas.List.{length-take-le}

module _ {X : Type 0} where
  pub set_parts : (xs : List X) (i : ℕ) (x : X) → i < length xs → set xs i x ≡ take i xs ++ x ∷ drop (suc i) xs
  set_parts [] i x h = absurd (omega arith)
  set_parts (y ∷ xs) zero x h = refl
  set_parts (y ∷ xs) (suc i) x h = let l : i < length xs = omega arith in ap (λ (ys : List X). y ∷ ys) (set_parts xs i x l)

  -- an element put over the one at a place
  pub put_over : (xs : List X) (from until : ℕ) (x : X) → from < until → until ≤ from + 1 → until ≤ length xs → set xs from x ≡ take from xs ++ x ∷ drop until xs
  put_over xs from until x a b c =
      let n : until ≡ suc from = omega arith in
      rw n (set_parts xs from x (omega arith))

  take_on : (n from below : ℕ) (xs : List X) → n ≡ from + below → take n xs ≡ take from xs ++ take below (drop from xs)
  take_on n zero below xs e = ap (λ (m : ℕ). take m xs) {x = n} {y = below} (omega (arith, e))
  take_on zero (suc from) below xs e = absurd (omega (arith, e))
  take_on (suc n) (suc from) zero [] e = refl
  take_on (suc n) (suc from) (suc below) [] e = refl
  take_on (suc n) (suc from) below (x ∷ xs) e = ap (λ (ys : List X). x ∷ ys) (take_on n from below xs (omega (arith, e)))

  drop_on : (n from above : ℕ) (xs : List X) → n ≡ from + above → drop n xs ≡ drop above (drop from xs)
  drop_on n zero above xs e = ap (λ (m : ℕ). drop m xs) {x = n} {y = above} (omega (arith, e))
  drop_on zero (suc from) above xs e = absurd (omega (arith, e))
  drop_on (suc n) (suc from) zero [] e = refl
  drop_on (suc n) (suc from) (suc above) [] e = refl
  drop_on (suc n) (suc from) above (x ∷ xs) e = drop_on n from above xs (omega (arith, e))

  take_past : (us vs : List X) (x : X) (n : ℕ) → n ≡ length us + 1 → take n (us ++ x ∷ vs) ≡ us ++ x ∷ []
  take_past us vs x zero h = absurd (omega (arith, h))
  take_past [] vs x (suc n) h = ap (λ (m : ℕ). x ∷ take m vs) {x = n} {y = 0} (omega (arith, h))
  take_past (u ∷ us) vs x (suc n) h = ap (λ (ys : List X). u ∷ ys) (take_past us vs x n (omega (arith, h)))

  drop_past : (us vs : List X) (x : X) (n : ℕ) → n ≡ length us + 1 → drop n (us ++ x ∷ vs) ≡ vs
  drop_past us vs x zero h = absurd (omega (arith, h))
  drop_past [] vs x (suc n) h = ap (λ (m : ℕ). drop m vs) {x = n} {y = 0} (omega (arith, h))
  drop_past (u ∷ us) vs x (suc n) h = drop_past us vs x n (omega (arith, h))

  -- after an element is put between the first `from + below` elements and those from `from + above` on
  module _ (old new : List X) (x : X) (from below above next : ℕ) (n : next ≡ from + below + 1) (l : from + below ≤ length old) (e : new ≡ take (from + below) old ++ x ∷ drop (from + above) old) where
    many : length (take (from + below) old) ≡ from + below
    many = length-take-le (from + below) old l

    pub put_front : take next new ≡ (take from old ++ take below (drop from old)) ++ x ∷ []
    put_front =
        ap (take next) e
        ∙ take_past (take (from + below) old) (drop (from + above) old) x next (omega (arith, n, many))
        ∙ ap (λ (ys : List X). ys ++ x ∷ []) (take_on (from + below) from below old refl)

    pub put_back : drop next new ≡ drop above (drop from old)
    put_back =
        ap (drop next) e
        ∙ drop_past (take (from + below) old) (drop (from + above) old) x next (omega (arith, n, many))
        ∙ drop_on (from + above) from above old refl
