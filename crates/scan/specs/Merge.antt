-- The remaining entries of a merge of a leaf's base and the changes of its runs, in either direction. Lists are in key order.
use Rattle.std.specs.Prelude.{◌≡◌, true, []}
use Rattle.std.specs.List.{AllByRecursion}
use Rattle.keys.specs.Bytes.{Bytes, Pairs, Changes}
use Rattle.delta_chain.specs.Layers.{with_run}
use Rattle.scan.specs.Direction.{precedes, BeginsWith}
use Rattle.scan.specs.declared.direction.Direction.{Direction}

-- changes, and the pairs that they apply to
pub record Merged : Type 0 where
  pub changes : Changes Bytes
  pub pairs : Pairs Bytes

-- the pairs with the changes applied
abbrev pub merged : Merged → Pairs Bytes
merged m = with_run m.pairs m.changes

-- the first of the pairs comes before k
pub record HasUntil {V : Type 0} (d : Direction) (k : Bytes) (es : Pairs V) : Type 0 where
  pub first : Bytes × V
  pub begins : BeginsWith d first es
  pub before : precedes d first.0 k ≡ true

-- all changes come after the first of the pairs; without pairs there are none
pub record ArePairsNext {V : Type 0} (d : Direction) (cs : Changes V) (es : Pairs V) : Type 0 where
  pub none : es ≡ [] → cs ≡ []
  pub none_until : (e : Bytes × V) → BeginsWith d e es → AllByRecursion (λ c. precedes d e.0 c.0 ≡ true) cs
