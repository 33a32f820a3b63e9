-- An ordered map: the list of its pairs, in strictly rising order of their keys.
use Rattle.std.specs.Prelude.{Option}
use Rattle.std.specs.Ordering.{is_eq}
use Rattle.std.specs.Map.{lookup, remove_entry}
use Rattle.std.specs.BTreeMap.{insert_entry}
use Rattle.keys.specs.Bytes.{Bytes, Pairs}
use Rattle.keys.specs.Order.{order}

-- the value of the first pair that has the key
abbrev pub value_at : {V : Type 0} → Bytes → Pairs V → Option V
value_at k m = lookup (λ j. is_eq (order k j)) m

-- the map with the value at the key: it replaces the pair with this key, or is inserted before the first greater key
abbrev pub with_pair : {V : Type 0} → Pairs V → Bytes → V → Pairs V
with_pair m k v = insert_entry order m k v

-- the map without the first pair that has the key
abbrev pub without : {V : Type 0} → Pairs V → Bytes → Pairs V
without m k = remove_entry (λ j. is_eq (order k j)) m
