-- Iteration over a leaf by a search for each next key, in either direction.
use Rattle.std.specs.Prelude.{◌≡◌, Bool, true, [], ◌∷◌, Option, Some, None}
use Rattle.std.specs.List.{AllByRecursion}
use Rattle.keys.specs.Bytes.{Bytes, Pairs}
use Rattle.delta_chain.specs.Layers.{Layers}
use Rattle.scan.specs.Direction.{precedes, in_turn, after, until}
use Rattle.scan.specs.Edge.{is_beyond, beyond}
use Rattle.scan.specs.declared.direction.Direction.{Direction}

-- the next pair, if there is one, and those that come after it
abbrev pub left_with : {V : Type 0} → Direction → Option (Bytes × V) → Pairs V → Pairs V
left_with d None es = []
left_with d (Some e) es = in_turn d (e ∷ []) (after d e.0 es)

-- the keys beyond the edge are those that come after this one
abbrev pub IsPassed : Direction → Bytes → (Bytes → Bool) → Type 0
IsPassed d k under = (j : Bytes) → is_beyond d under j ≡ precedes d k j

-- no list contains a key beyond the edge
pub record NamesNone {V : Type 0} (d : Direction) (under : Bytes → Bool) (p : Layers V) : Type 0 where
  pub runs : AllByRecursion (λ run. beyond d under run ≡ []) p.runs
  pub base : beyond d under p.base ≡ []

-- k is beyond the edge, and no list contains a key between them
pub record AreNamedFrom {V : Type 0} (d : Direction) (k : Bytes) (under : Bytes → Bool) (p : Layers V) : Type 0 where
  pub own : is_beyond d under k ≡ true
  pub runs : AllByRecursion (λ run. until d k (beyond d under run) ≡ []) p.runs
  pub base : until d k (beyond d under p.base) ≡ []
