-- Edges between keys, where ranges and iterations begin and end.
use Rattle.std.specs.Prelude.{◌≡◌, ℕ, Bool, true, false, not, ◌&&◌, ◌||◌, List, Option, count_by}
use Rattle.std.specs.List.{AllByRecursion, filter}
use Rattle.keys.specs.Bytes.{Bytes, Pairs}
use Rattle.keys.specs.Range.{is_below, is_before}
use Rattle.scan.specs.Prefix.{begins_with}
use Rattle.scan.specs.declared.direction.Direction.{Direction}
use Rattle.scan.specs.declared.direction.Direction.TheVariants.{Up, Down}
use Rattle.scan.specs.declared.edge.Edge.{Edge}
use Rattle.scan.specs.declared.edge.Edge.TheVariants.{Low, Before, After, AfterPrefix, High}

-- whether a key is below an edge
abbrev pub is_under : Edge → Bytes → Bool
is_under Low k = false
is_under (Before end) k = is_below k end.now
is_under (After end) k = not (is_below end.now k)
is_under (AfterPrefix prefix) k = is_below k prefix.now || begins_with prefix.now k
is_under High k = true

-- how many of the keys are not above one
abbrev pub count_up_to : Bytes → List Bytes → ℕ
count_up_to k ks = count_by (λ j. not (is_below k j)) ks

-- n of the keys are below a prefix or begin with it
abbrev pub IsPrefixSplit : Bytes → List Bytes → ℕ → Type 0
IsPrefixSplit prefix ks n = n ≡ count_by (λ j. is_below j prefix || begins_with prefix j) ks

-- Below, an edge is given by its test, which passes the keys below it.

-- whether an iteration from an edge comes to a key
abbrev pub is_beyond : Direction → (Bytes → Bool) → Bytes → Bool
is_beyond Up under k = not (under k)
is_beyond Down under k = under k

-- the pairs that an iteration from an edge comes to
abbrev pub beyond : {V : Type 0} → Direction → (Bytes → Bool) → Pairs V → Pairs V
beyond d under es = filter (λ e. is_beyond d under e.0) es

-- the pairs between two edges
abbrev pub between : {V : Type 0} → (Bytes → Bool) → (Bytes → Bool) → Pairs V → Pairs V
between start end es = filter (λ e. not (start e.0) && end e.0) es

-- the same of these pairs are below both edges
abbrev pub PartAlike : {V : Type 0} → (Bytes → Bool) → (Bytes → Bool) → Pairs V → Type 0
PartAlike under other es = AllByRecursion (λ e. under e.0 ≡ other e.0) es

-- every key lies beyond the edge
abbrev pub IsOutermost : Direction → (Bytes → Bool) → Type 0
IsOutermost d under = (k : Bytes) → is_beyond d under k ≡ true

-- the keys below the edge are those before this end
abbrev pub IsEdgeAt : Option Bytes → (Bytes → Bool) → Type 0
IsEdgeAt end under = (k : Bytes) → under k ≡ is_before end k
