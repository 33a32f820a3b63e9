-- The order of keys.
use Rattle.std.specs.Prelude.{Bool, ◌&&◌, List}
use Rattle.std.specs.declared.cmp.Ordering.{Ordering}
use Rattle.std.specs.Ordering.{nat_cmp, eq_by_cmp}
use Rattle.std.specs.Cmp.Lexicographic.{slice_cmp, pointwise}
use Rattle.std.specs.List.Sorted.{IsStrictlySortedBy}
use Rattle.std.specs.Map.{keys_of}
use Rattle.keys.specs.Bytes.{Bytes, Pairs}

-- byte strings compare bytewise, and a proper prefix comes first
abbrev pub order : Bytes → Bytes → Ordering
order = slice_cmp nat_cmp

-- each key is below all later ones
abbrev pub AreRisingKeys : List Bytes → Type 0
AreRisingKeys ks = IsStrictlySortedBy order ks

-- each pair's key is below all later ones
abbrev pub IsRising : {V : Type 0} → Pairs V → Type 0
IsRising es = AreRisingKeys (keys_of es)

-- the keys are the same, and so are the values
abbrev pub same_pair : Bytes × Bytes → Bytes × Bytes → Bool
same_pair p q = eq_by_cmp order p.0 q.0 && eq_by_cmp order p.1 q.1

-- both lists have the same length, and equal pairs at each place
abbrev pub same_pairs : Pairs Bytes → Pairs Bytes → Bool
same_pairs = pointwise same_pair
