-- The nearest key on one side of a key.
use Rattle.std.specs.Prelude.{◌≡◌, ℕ, ◌<◌, ◌≤◌, Bool, true, false, not, ◌&&◌, List, [], ◌∷◌, length, slice_get, count_by, Option, Some, None}
use Rattle.std.specs.Option.{option_map, option_or, is_none}
use Rattle.std.specs.Ordering.{is_lt}
use Rattle.std.specs.declared.cmp.Ordering.{Ordering}
use Rattle.std.specs.declared.cmp.Ordering.TheVariants.{Less}
use Rattle.keys.specs.Bytes.{Bytes, Pairs, Changes}
use Rattle.keys.specs.Order.{order}
use Rattle.keys.specs.OrderedMap.{value_at}
use Rattle.delta_chain.specs.Layers.{Layers}
use Rattle.page_search.specs.declared.side.Side.{Side}
use Rattle.page_search.specs.declared.side.Side.TheVariants.{UpTo, Below, Above}

-- whether j is on this side of k
abbrev pub is_on : Side → Bytes → Bytes → Bool
is_on UpTo k j = not (is_lt (order k j))
is_on Below k j = is_lt (order j k)
is_on Above k j = is_lt (order k j)

-- compares two keys on this side of a third; the nearer key counts as the greater one
abbrev pub nearness : Side → Bytes → Bytes → Ordering
nearness UpTo i j = order i j
nearness Below i j = order i j
nearness Above i j = order j i

-- the side on which the search continues past a key on this side; that key is excluded
abbrev pub past : Side → Side
past UpTo = Below
past Below = Below
past Above = Above

-- whether the keys on this side are the first keys of a rising list
abbrev pub are_first : Side → Bool
are_first UpTo = true
are_first Below = true
are_first Above = false

-- the item of the key in the newest of the runs and the base that contains it: a value, or a deletion
abbrev pub named_under : {V : Type 0} → Bytes → List (Changes V) → Pairs V → Option (Option V)
named_under k [] base = option_map Some (value_at k base)
named_under k (run ∷ runs) base = option_or (value_at k run) (named_under k runs base)

-- the item of the key in the page, if the page contains it: a value, or a deletion
abbrev pub named_by : {V : Type 0} → Layers V → Bytes → Option (Option V)
named_by p k = named_under k p.runs p.base

-- j is on this side of k and has this item, and no nearer key on this side has an item
pub record IsNearestWith {T : Type 0} (s : Side) (k : Bytes) (at : Bytes → Option T) (j : Bytes) (item : T) : Type 0 where
  pub on : is_on s k j ≡ true
  pub has : at j ≡ Some item
  pub none_nearer : (i : Bytes) → is_on s k i ≡ true → nearness s j i ≡ Less → at i ≡ None

-- the nearest key on this side that has an item, with that item; or no key on this side has one
abbrev pub IsNearest : {T : Type 0} → Side → Bytes → (Bytes → Option T) → Option (Bytes × T) → Type 0
IsNearest s k at None = (i : Bytes) → is_on s k i ≡ true → at i ≡ None
IsNearest s k at (Some e) = IsNearestWith s k at e.0 e.1

-- whether j is nearer to a key than this entry, on this side; without an entry, every key is
abbrev pub is_nearer_than : {V : Type 0} → Side → Option (Bytes × V) → Bytes → Bool
is_nearer_than s None j = true
is_nearer_than s (Some e) j = is_lt (nearness s e.0 j)

-- whether the change deletes a key that is on this side of k and nearer than this entry
abbrev pub is_passed : {V : Type 0} → Side → Bytes → Option (Bytes × V) → Bytes × Option V → Bool
is_passed s k x c = is_none c.1 && (is_on s k c.0 && is_nearer_than s x c.0)

-- how many of the changes do so; for the merged changes of a page's runs, the number of deleted keys that a search from k to this entry passes
abbrev pub count_passed : {V : Type 0} → Side → Bytes → Option (Bytes × V) → Changes V → ℕ
count_passed s k x cs = count_by (is_passed s k x) cs

-- none of the keys is on this side of k
abbrev pub HasNoneOn : Side → Bytes → List Bytes → Type 0
HasNoneOn s k ks = (m : ℕ) (i : Bytes) → slice_get ks m ≡ Some i → is_on s k i ≡ false

-- the key at this place is on this side of k, and no nearer key of the list is
pub record IsNearestPlace (s : Side) (k : Bytes) (ks : List Bytes) (at : ℕ) : Type 0 where
  pub within : at < length ks
  pub on : (j : Bytes) → slice_get ks at ≡ Some j → is_on s k j ≡ true
  pub none_nearer : (m : ℕ) (i j : Bytes) → slice_get ks at ≡ Some j → slice_get ks m ≡ Some i → nearness s j i ≡ Less → is_on s k i ≡ false

-- the keys on this side of k are those before this place, or those from this place on
pub record Parts (s : Side) (k : Bytes) (ks : List Bytes) (at : ℕ) : Type 0 where
  pub within : at ≤ length ks
  pub before : (m : ℕ) (i : Bytes) → m < at → slice_get ks m ≡ Some i → is_on s k i ≡ are_first s
  pub from : (m : ℕ) (i : Bytes) → at ≤ m → slice_get ks m ≡ Some i → is_on s k i ≡ not (are_first s)
