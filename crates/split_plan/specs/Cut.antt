-- How entries are split into pages.
use Rattle.std.specs.Prelude.{ℕ, zero, suc, ◌+◌, ◌*◌, ◌/◌, ◌-◌, ◌≤◌, max, List, [], ◌∷◌, length, slice_range}
use Rattle.std.specs.List.{AllByRecursion}

-- the number of pages for n entries: n / fan rounded up, and at least one
abbrev pub piece_count : ℕ → ℕ → ℕ
piece_count fan n = max 1 ((n + (fan - 1)) / fan)

-- the given number of p pieces, from piece i on; piece i runs from i n / p up to and without (i + 1) n / p
abbrev pub pieces : {X : Type 0} → List X → ℕ → ℕ → ℕ → List (List X)
pieces es p i zero = []
pieces es p i (suc more) = slice_range es (i * length es / p) (suc i * length es / p) ∷ pieces es p (suc i) more

-- the entries, split into pieces of nearly the same length
abbrev pub cut : {X : Type 0} → ℕ → List X → List (List X)
cut fan es = pieces es (piece_count fan (length es)) 0 (piece_count fan (length es))

-- each piece has at most `most` entries; each has at least `least`
abbrev pub AllAtMost : {X : Type 0} → ℕ → List (List X) → Type 0
AllAtMost most bs = AllByRecursion (λ b. length b ≤ most) bs

abbrev pub AllAtLeast : {X : Type 0} → ℕ → List (List X) → Type 0
AllAtLeast least bs = AllByRecursion (λ b. least ≤ length b) bs
