-- How often numbers occur in a list.
use Rattle.std.specs.Prelude.{◌≡◌, ℕ, ◌+◌, List, [], ◌∷◌, if◌then◌else◌, ◌==◌, nat_lt}

-- how often x occurs in the list
abbrev pub times : ℕ → List ℕ → ℕ
times x [] = 0
times x (y ∷ ys) = (if y == x then 1 else 0) + times x ys

-- the list has each number below n exactly once, and no other number
abbrev pub HasEachBelowOnce : ℕ → List ℕ → Type 0
HasEachBelowOnce n xs = (x : ℕ) → times x xs ≡ (if nat_lt x n then 1 else 0)

-- the sum of f over the list
abbrev pub total : {V : Type 0} → (V → ℕ) → List V → ℕ
total f [] = 0
total f (v ∷ vs) = f v + total f vs
