-- The remaining rows of an iteration in either direction that has an end and a limit.
use Rattle.std.specs.Prelude.{◌≡◌, ℕ, Bool, true, ◌∷◌, take, reverse, Option, Some, None}
use Rattle.std.specs.List.{filter}
use Rattle.keys.specs.Bytes.{Bytes, Pairs}
use Rattle.scan.specs.Direction.{precedes}
use Rattle.scan.specs.Edge.{between}
use Rattle.scan.specs.declared.direction.Direction.{Direction}
use Rattle.scan.specs.declared.direction.Direction.TheVariants.{Up, Down}

-- the first pairs up to a limit, if there is one
abbrev pub limited : Option ℕ → Pairs Bytes → Pairs Bytes
limited None es = es
limited (Some n) es = take n es

-- the first limit has room for a pair, and the second is the limit after it
abbrev pub GoesOn : Option ℕ → Option ℕ → Type 0
GoesOn left later = (e : Bytes × Bytes) (es : Pairs Bytes) → limited left (e ∷ es) ≡ e ∷ limited later es

-- pairs in key order, in the order in which an iteration comes to them
abbrev pub in_order : Direction → Pairs Bytes → Pairs Bytes
in_order Up es = es
in_order Down es = reverse es

-- whether an iteration comes to a key before it stops; without a stop, it comes to every key
abbrev pub comes_before : Direction → Option Bytes → Bytes → Bool
comes_before d None k = true
comes_before d (Some stop) k = precedes d k stop

-- the remaining pairs up to the stop, at most as many as the limit
abbrev pub rows_left : Direction → Option ℕ → Option Bytes → Pairs Bytes → Pairs Bytes
rows_left d left stop es = limited left (in_order d (filter (λ e. comes_before d stop e.0) es))

-- the pairs from one edge to another, in the order in which an iteration comes to them
abbrev pub between_in_order : Direction → (Bytes → Bool) → (Bytes → Bool) → Pairs Bytes → Pairs Bytes
between_in_order Up start end es = between start end es
between_in_order Down start end es = reverse (between end start es)
