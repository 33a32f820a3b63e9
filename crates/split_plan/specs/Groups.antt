-- Which children of one parent are merged with each other.
use Rattle.std.specs.Prelude.{ℕ, Bool, true, false, not, List, [], ◌∷◌, ◌++◌, take, drop, count_by}

-- the thin children at the beginning, and the groups that the other children begin
pub record Gathered (X : Type 0) : Type 0 where
  pub leading : List X
  pub groups : List (List X)

-- one more child in front: a thin one is added to the leading ones; any other begins a group together with the leading ones
abbrev pub with_child : {X : Type 0} → Bool → X → Gathered X → Gathered X
with_child true x g = record { leading = x ∷ g.leading; groups = g.groups }
with_child false x g = record { leading = []; groups = (x ∷ g.leading) ∷ g.groups }

abbrev pub gathered : {X : Type 0} → (X → Bool) → List X → Gathered X
gathered is_thin [] = record { leading = []; groups = [] }
gathered is_thin (x ∷ xs) = with_child (is_thin x) x (gathered is_thin xs)

-- the leading children join the first group, or form a group if there is none
abbrev pub with_leading : {X : Type 0} → List X → List (List X) → List (List X)
with_leading [] gs = gs
with_leading (x ∷ xs) [] = (x ∷ xs) ∷ []
with_leading (x ∷ xs) (g ∷ gs) = (x ∷ xs ++ g) ∷ gs

-- each child that isn't thin begins a group, and a thin one joins the group on its left
abbrev pub groups : {X : Type 0} → (X → Bool) → List X → List (List X)
groups is_thin xs = with_leading (gathered is_thin xs).leading (gathered is_thin xs).groups

-- how many of the children aren't thin
abbrev pub count_kept : {X : Type 0} → (X → Bool) → List X → ℕ
count_kept is_thin xs = count_by (λ x. not (is_thin x)) xs

-- whether the first child is thin
abbrev pub begins_thin : {X : Type 0} → (X → Bool) → List X → Bool
begins_thin is_thin [] = false
begins_thin is_thin (x ∷ xs) = is_thin x

-- the list split from its front into parts of these lengths, as far as there are elements
abbrev pub cut_by : {X : Type 0} → List ℕ → List X → List (List X)
cut_by [] xs = []
cut_by (n ∷ ns) xs = take n xs ∷ cut_by ns (drop n xs)
