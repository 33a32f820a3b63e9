-- How many pairs a scan certainly finds before a leaf, although commands before it may delete keys and wipe ranges.
use Rattle.std.specs.Prelude.{◌≡◌, ℕ, ◌+◌, ◌≤◌, true, false, List, [], ◌∷◌, flat_map, length, Option, Some, if◌then◌else◌}
use Rattle.std.specs.List.{AllByRecursion, filter}
use Rattle.keys.specs.Bytes.{Bytes, Pairs, Changes}
use Rattle.delta_chain.specs.Layers.{Layers}
use Rattle.keys.specs.Footprint.{Access, Takes, Span, One, Range, access_of, span_of}
use Rattle.keys.specs.Range.{is_below, is_within, in_range}
use Rattle.keys.specs.declared.command.Command.{Command}

-- the key that a command deletes, if it deletes a single key
abbrev pub key_taken : Access → Span → List Bytes
key_taken Takes (One k) = k ∷ []
key_taken deed span = []

abbrev pub deleted_by : {A : Type 0} → Command A → List Bytes
deleted_by c = key_taken (access_of c) (span_of c)

-- the keys that commands delete, with repetitions
abbrev pub deleted : {A : Type 0} → List (Command A) → List Bytes
deleted cs = flat_map deleted_by cs

-- the range of keys that a command deletes, if it does: its lower bound, and its upper bound, if it has one
abbrev pub range_taken : Access → Span → List (Bytes × Option Bytes)
range_taken Takes (Range lo hi) = (lo, hi) ∷ []
range_taken deed span = []

abbrev pub wiped_by : {A : Type 0} → Command A → List (Bytes × Option Bytes)
wiped_by c = range_taken (access_of c) (span_of c)

-- the ranges that commands delete
abbrev pub wiped : {A : Type 0} → List (Command A) → List (Bytes × Option Bytes)
wiped cs = flat_map wiped_by cs

-- no key at or above the low key and below the end lies in any of these ranges
abbrev pub IsUntouched : Bytes → Bytes → List (Bytes × Option Bytes) → Type 0
IsUntouched low end ranges = (k : Bytes) → is_within low (Some end) k ≡ true → AllByRecursion (λ range. is_within range.0 range.1 k ≡ false) ranges

-- deleted keys and deleted ranges of keys
abbrev pub Deletions : Type 0
Deletions = List Bytes × List (Bytes × Option Bytes)

-- how many of the keys are at or above the low key and below the end
abbrev pub count_within : Bytes → Bytes → List Bytes → ℕ
count_within low end keys = length (filter (λ k. is_within low (Some end) k) keys)

-- at or above a low key and below an end, the second map lacks at most as many of the first one's pairs as there are deleted keys, provided that no
-- key there lies in a deleted range
abbrev pub LacksAtMost : Deletions → Pairs Bytes → Pairs Bytes → Type 0
LacksAtMost taken m n = (low end : Bytes) → IsUntouched low end taken.1 →
    length (in_range low (Some end) m) ≤ length (in_range low (Some end) n) + count_within low end taken.0

-- the first key of a scan's part of a leaf: the greater of the scan's lower bound and the leaf's low key
abbrev pub later : Bytes → Bytes → Bytes
later low lo = if is_below low lo then lo else low

-- a scan of the map from a key on finds at least n more pairs before an end than before a low key
abbrev pub AreCertain : Bytes → Pairs Bytes → Bytes → Bytes → ℕ → Type 0
AreCertain lo m low end n = n + length (in_range lo (Some low) m) ≤ length (in_range lo (Some end) m)

-- how many of the entries have keys below this one
abbrev pub keyed_below : {X : Type 0} → Bytes → Pairs X → ℕ
keyed_below key es = length (filter (λ e. is_below e.0 key) es)

-- how many keys below this one the runs and the base contain, counted separately in each list
abbrev pub named_below_under : Bytes → List (Changes Bytes) → Pairs Bytes → ℕ
named_below_under key [] base = keyed_below key base
named_below_under key (run ∷ runs) base = named_below_under key runs base + keyed_below key run

-- how many keys below this one the lists of a page contain
abbrev pub named_below : Bytes → Layers Bytes → ℕ
named_below key p = named_below_under key p.runs p.base
