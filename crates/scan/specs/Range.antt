-- The pairs between two edges of a tree, and the iterations that yield them from either end.
use Rattle.std.specs.Prelude.{◌≡◌, ◌≤◌, Bool, false, not, [], Option, Some, None, IfSome}
use Rattle.keys.specs.Bytes.{Bytes, Pairs}
use Rattle.mapping.specs.Levels.{levels_of, contents}
use Rattle.mapping.specs.Proper.{AreLevels, HoldsItsLevels}
use Rattle.mapping.specs.Tree.{most_levels}
use Rattle.mapping.specs.TreeInMemory.{TreeInMemory, AreAllHome, tree_of}
use Rattle.scan.specs.Direction.{precedes, IsNext}
use Rattle.scan.specs.Edge.{is_beyond, beyond}
use Rattle.scan.specs.declared.direction.Direction.{Direction}
use Rattle.scan.specs.declared.direction.Direction.TheVariants.{Up, Down}

-- the tree can be iterated, and each iteration that has started has the pairs beyond its edge left
pub record IsBetween (t : TreeInMemory) (start end : Bytes → Bool) (front back : Option (Pairs Bytes)) : Type 0 where
  pub home : AreAllHome t
  pub height : t.height ≤ most_levels
  pub held : HoldsItsLevels (tree_of t)
  pub levels : AreLevels (levels_of (tree_of t))
  pub upward : IfSome front (λ es. es ≡ beyond Up start (contents (tree_of t)))
  pub downward : IfSome back (λ es. es ≡ beyond Down end (contents (tree_of t)))

-- the first of the pairs was returned, and an iteration over the others remains; or there was no pair
abbrev pub IsTurn : Direction → Pairs Bytes → Option (Bytes × Bytes) → Option (Pairs Bytes) → Type 0
IsTurn d es None left = (es ≡ []) × (left ≡ Some [])
IsTurn d es (Some e) left = (rest : Pairs Bytes) × IsNext d es e rest × (left ≡ Some rest)

-- the edge is just before the first pair that an iteration comes to, which has this key; without a pair it is beyond all keys
abbrev pub IsOwnEdge : Direction → Option Bytes → (Bytes → Bool) → Type 0
IsOwnEdge d None own = (k : Bytes) → is_beyond d own k ≡ false
IsOwnEdge d (Some key) own = (k : Bytes) → is_beyond d own k ≡ not (precedes d k key)
