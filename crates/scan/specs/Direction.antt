-- The two directions of an iteration over keys, and lists in key order that are iterated in either.
use Rattle.std.specs.Prelude.{◌≡◌, ℕ, ◌+◌, ◌<◌, ◌≤◌, Bool, List, [], ◌∷◌, ◌++◌, take, drop, min}
use Rattle.std.specs.List.{filter}
use Rattle.keys.specs.Bytes.{Bytes, Pairs}
use Rattle.keys.specs.Range.{is_below}
use Rattle.scan.specs.declared.direction.Direction.{Direction}
use Rattle.scan.specs.declared.direction.Direction.TheVariants.{Up, Down}

-- whether an iteration comes to the first key before the second
abbrev pub precedes : Direction → Bytes → Bytes → Bool
precedes Up j k = is_below j k
precedes Down j k = is_below k j

-- the first element of an iteration over the list, and the others; both lists are in key order
abbrev pub IsNext : {X : Type 0} → Direction → List X → X → List X → Type 0
IsNext Up all x rest = all ≡ x ∷ rest
IsNext Down all x rest = all ≡ rest ++ x ∷ []

-- the remaining elements of an iteration that is at a place: those from there on, or those before
abbrev pub left_at : {X : Type 0} → Direction → ℕ → List X → List X
left_at Up at xs = drop at xs
left_at Down at xs = take at xs

-- two lists together, in key order, where the iteration comes to the second after the first
abbrev pub in_turn : {X : Type 0} → Direction → List X → List X → List X
in_turn Up first later = first ++ later
in_turn Down first later = later ++ first

-- the pairs that an iteration comes to after a key
abbrev pub after : {V : Type 0} → Direction → Bytes → Pairs V → Pairs V
after d k es = filter (λ e. precedes d k e.0) es

-- the pairs that it comes to before a key
abbrev pub until : {V : Type 0} → Direction → Bytes → Pairs V → Pairs V
until d k es = filter (λ e. precedes d e.0 k) es

-- at this place of a list with len elements none remains
abbrev pub IsNonePlace : Direction → ℕ → ℕ → Type 0
IsNonePlace Up at len = len ≤ at
IsNonePlace Down at len = min at len ≡ 0

-- at this place the next element is at `here`, and after it the iteration is at `later`
abbrev pub IsNextPlace : Direction → ℕ → ℕ → ℕ → ℕ → Type 0
IsNextPlace Up at len here later = (at < len) × (here ≡ at) × (later ≡ at + 1)
IsNextPlace Down at len here later = (here + 1 ≡ min at len) × (later ≡ here)

-- this is the first pair of an iteration over the list
pub record BeginsWith {V : Type 0} (d : Direction) (e : Bytes × V) (es : Pairs V) : Type 0 where
  pub rest : Pairs V
  pub parts : IsNext d es e rest
