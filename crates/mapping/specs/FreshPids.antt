-- Which pids new pages get.
use Rattle.std.specs.Prelude.{◌≢◌, ℕ, suc, Bool, false, ◌||◌, nat_lt, nat_le, nat_eq, if◌then◌else◌, List, [], ◌∷◌}

-- whether the number is among these
abbrev pub is_among : ℕ → List ℕ → Bool
is_among n [] = false
is_among n (m ∷ ms) = nat_eq n m || is_among n ms

-- the n-th unused number, counted from 0, where the used ones are given in rising order
abbrev pub unused : List ℕ → ℕ → ℕ
unused [] n = n
unused (u ∷ us) n = unused us (if nat_le u n then suc n else n)

-- the number is never among the unused ones
abbrev pub IsNeverUnused : List ℕ → ℕ → Type 0
IsNeverUnused used n = (m : ℕ) → n ≢ unused used m

-- the rising numbers with one more that is not among them
abbrev pub with_number : ℕ → List ℕ → List ℕ
with_number n [] = n ∷ []
with_number n (u ∷ us) = if nat_lt n u then n ∷ u ∷ us else u ∷ with_number n us
