-- Lists whose elements are worked on one after the other.
use Rattle.std.specs.Prelude.{◌≡◌, ◌<◌, ◌≤◌, ⊤, ℕ, zero, suc, List, [], ◌∷◌, map, drop, length, set, get_or}
use Rattle.std.proofs.Common.{refl, sym, ap, ◌∙◌, subst, arith}

module _ {X Y : Type 0} (Before After : X → Y → Type 0) where
  -- the first n elements are done, and the others are as they were before
  abbrev pub AreDone : List X → List Y → ℕ → Type 0
  AreDone [] [] n = ⊤
  AreDone [] (y ∷ ys) n = ⊥
  AreDone (x ∷ xs) [] n = ⊥
  AreDone (x ∷ xs) (y ∷ ys) zero = Before x y × AreDone xs ys zero
  AreDone (x ∷ xs) (y ∷ ys) (suc n) = After x y × AreDone xs ys n

  -- the next element is as it was
  pub next_is : (xs : List X) (ys : List Y) (n : ℕ) (x : X) → AreDone xs ys n → n < length xs → x ≡ get_or xs n x → (y : Y) × (drop n ys ≡ y ∷ drop (suc n) ys) × Before x y
  next_is [] ys n x d l h = absurd (omega arith)
  next_is (z ∷ xs) [] n x d l h = absurd d
  next_is (z ∷ xs) (y ∷ ys) zero x d l h = (y, refl, subst (λ (w : X). Before w y) (sym h) d.0)
  next_is (z ∷ xs) (y ∷ ys) (suc n) x d l h = let m : n < length xs = omega arith in next_is xs ys n x d.1 m h

  -- one more is done
  pub one_done : (xs : List X) (ys rest : List Y) (n : ℕ) (x : X) (y : Y) → AreDone xs ys n → n < length xs → drop n ys ≡ y ∷ rest → After x y → AreDone (set xs n x) ys (suc n)
  one_done [] ys rest n x y d l h a = absurd (omega arith)
  one_done (z ∷ xs) [] rest n x y d l h a = absurd d
  one_done (z ∷ xs) (v ∷ ys) rest zero x y d l h a = (let same : y ≡ v = cc in subst (λ (w : Y). After x w) same a, d.1)
  one_done (z ∷ xs) (v ∷ ys) rest (suc n) x y d l h a = let m : n < length xs = omega arith in (d.0, one_done xs ys rest n x y d.1 m h a)

  -- all are done
  pub all_done : {Z : Type 0} (f : X → Z) (g : Y → Z) → ((x : X) (y : Y) → After x y → f x ≡ g y) → (xs : List X) (ys : List Y) (n : ℕ) → AreDone xs ys n → length xs ≤ n → map f xs ≡ map g ys
  all_done f g same [] [] n d l = refl
  all_done f g same [] (y ∷ ys) n d l = absurd d
  all_done f g same (x ∷ xs) [] n d l = absurd d
  all_done f g same (x ∷ xs) (y ∷ ys) zero d l = absurd (omega arith)
  all_done f g same (x ∷ xs) (y ∷ ys) (suc n) d l =
      let m : length xs ≤ n = omega arith in
      ap (λ (z : _). z ∷ map f xs) (same x y d.0) ∙ ap (λ (zs : List _). g y ∷ zs) (all_done f g same xs ys n d.1 m)

  -- none is done yet
  pub none_done : {Z : Type 0} (f : X → Z) (g : Y → Z) → ((x : X) (y : Y) → f x ≡ g y → Before x y) → (xs : List X) (ys : List Y) → map f xs ≡ map g ys → AreDone xs ys 0
  none_done f g before [] [] h = tt
  none_done f g before [] (y ∷ ys) h = absurd (cc)
  none_done f g before (x ∷ xs) [] h = absurd (cc)
  none_done f g before (x ∷ xs) (y ∷ ys) h =
      let here : f x ≡ g y = cc in
      let rest : map f xs ≡ map g ys = cc in
      (before x y here, none_done f g before xs ys rest)
