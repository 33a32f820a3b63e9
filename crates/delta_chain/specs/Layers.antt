-- The state of a page, apart from its kind and low key.
use Rattle.std.specs.Prelude.{ℕ, List, [], ◌∷◌, Option, Some, None, length}
use Rattle.keys.specs.Bytes.{Bytes, Pairs, Changes}
use Rattle.keys.specs.Order.{IsRising}
use Rattle.keys.specs.OrderedMap.{value_at, with_pair, without}

-- runs of changes, newest first, and the base below them; a change is a value, or None for a deletion
pub record Layers (V : Type 0) : Type 0 where
  pub runs : List (Changes V)
  pub base : Pairs V

-- a run's change of a key, else the value below it
abbrev pub change_or : {V : Type 0} → Option (Option V) → Option V → Option V
change_or None below = below
change_or (Some change) below = change

-- the change of the newest run that contains the key, else the base's entry
abbrev pub held_under : {V : Type 0} → Bytes → List (Changes V) → Pairs V → Option V
held_under k [] base = value_at k base
held_under k (run ∷ runs) base = change_or (value_at k run) (held_under k runs base)

-- what the page holds at the key
abbrev pub holds : {V : Type 0} → Layers V → Bytes → Option V
holds p k = held_under k p.runs p.base

-- entries with one change applied: the key's value is set, or the key is deleted
abbrev pub with_change : {V : Type 0} → Pairs V → Bytes → Option V → Pairs V
with_change m k None = without m k
with_change m k (Some v) = with_pair m k v

-- entries with all changes of a run applied
abbrev pub with_run : {V : Type 0} → Pairs V → Changes V → Pairs V
with_run m [] = m
with_run m (c ∷ cs) = with_run (with_change m c.0 c.1) cs

-- the base with all runs applied, the oldest first
abbrev pub entries_under : {V : Type 0} → List (Changes V) → Pairs V → Pairs V
entries_under [] base = base
entries_under (run ∷ runs) base = with_run (entries_under runs base) run

-- the page's entries: its present keys with their values, in key order
abbrev pub entries_of : {V : Type 0} → Layers V → Pairs V
entries_of p = entries_under p.runs p.base

-- the number of runs
abbrev pub depth_of : {V : Type 0} → Layers V → ℕ
depth_of p = length p.runs

-- the keys of each run rise, and so do those of the base
abbrev pub AllRise : {V : Type 0} → List (Changes V) → Pairs V → Type 0
AllRise [] base = IsRising base
AllRise (run ∷ runs) base = IsRising run × AllRise runs base

abbrev pub IsInOrder : {V : Type 0} → Layers V → Type 0
IsInOrder p = AllRise p.runs p.base
