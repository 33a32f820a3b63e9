-- The requirements on a single page: as facts, and as the tests by which a checker finds violations.
use Rattle.std.specs.Prelude.{◌≡◌, ℕ, ◌≤◌, ◌<◌, Bool, true, ◌&&◌, nat_lt, nat_le, ⊤, List, [], ◌∷◌, Option, Some, None, length}
use Rattle.std.specs.Ordering.{is_lt, is_eq}
use Rattle.std.specs.List.{AllByRecursion, list_all}
use Rattle.std.specs.Map.{keys_of}
use Rattle.keys.specs.Bytes.{Bytes, Pairs, Changes}
use Rattle.keys.specs.Order.{order}
use Rattle.keys.specs.declared.settings.Settings.{Settings}
use Rattle.delta_chain.specs.Layers.{IsInOrder}
use Rattle.index_page.specs.Page.{Page, entries, first_key, said, named}
use Rattle.index_page.specs.Range.{is_within, AreFrom, AreBefore}

-- ---- its keys

-- the keys of each run and of the base rise, and are at or above this low key and before this end
pub record KeepsRange {V : Type 0} (low : Bytes) (end : Option Bytes) (p : Page V) : Type 0 where
  pub rising : IsInOrder p.layers
  pub from : AreFrom low (named p)
  pub before : AreBefore end (named p)

-- whether each key is below the next
abbrev pub do_rise : List Bytes → Bool
do_rise [] = true
do_rise (k ∷ []) = true
do_rise (k ∷ j ∷ ks) = is_lt (order k j) && do_rise (j ∷ ks)

-- whether the keys of each run and of the base rise
abbrev pub all_rise : {V : Type 0} → List (Changes V) → Pairs V → Bool
all_rise [] base = do_rise (keys_of base)
all_rise (run ∷ runs) base = do_rise (keys_of run) && all_rise runs base

abbrev pub keeps_range : {V : Type 0} → Bytes → Option Bytes → Page V → Bool
keeps_range low end p = all_rise p.layers.runs p.layers.base && list_all (is_within low end) (named p)

-- ---- its sizes

-- a value is within the settings; every pid is
abbrev pub IsShortValue : Settings → Bytes → Type 0
IsShortValue s v = length v ≤ s.max_value

abbrev pub IsAnyPid : ℕ → Type 0
IsAnyPid pid = ⊤

abbrev pub is_short_value : Settings → Bytes → Bool
is_short_value s v = nat_le (length v) s.max_value

abbrev pub is_any_pid : ℕ → Bool
is_any_pid pid = true

-- the property of the cell, if there is one
abbrev pub OfCell : {V : Type 0} → (V → Type 0) → Option V → Type 0
OfCell IsShort None = ⊤
OfCell IsShort (Some v) = IsShort v

abbrev pub of_cell : {V : Type 0} → (V → Bool) → Option V → Bool
of_cell is_short None = true
of_cell is_short (Some v) = is_short v

-- a change whose key, and whose cell, is within the settings
pub record IsShortChange {V : Type 0} (s : Settings) (IsShort : V → Type 0) (c : Bytes × Option V) : Type 0 where
  pub key : length c.0 ≤ s.max_key
  pub cell : OfCell IsShort c.1

abbrev pub is_short_change : {V : Type 0} → Settings → (V → Bool) → Bytes × Option V → Bool
is_short_change s is_short c = nat_le (length c.0) s.max_key && of_cell is_short c.1

-- a run has at least one change, and at most fan of them
pub record IsRunSized {X : Type 0} (s : Settings) (run : List X) : Type 0 where
  pub some : 0 < length run
  pub most : length run ≤ s.fan

abbrev pub is_run_sized : {X : Type 0} → Settings → List X → Bool
is_run_sized s run = nat_lt 0 (length run) && nat_le (length run) s.fan

-- base and runs are no larger than the settings allow, keys and cells are no longer, and there are at most `chain` runs
pub record Fits {V : Type 0} (s : Settings) (IsShort : V → Type 0) (p : Page V) : Type 0 where
  pub base : length p.layers.base ≤ s.fan
  pub runs : AllByRecursion (IsRunSized s) p.layers.runs
  pub changes : AllByRecursion (IsShortChange s IsShort) (said p)
  pub depth : length p.layers.runs ≤ s.chain

abbrev pub fits_sizes : {V : Type 0} → Settings → (V → Bool) → Page V → Bool
fits_sizes s is_short p = nat_le (length p.layers.base) s.fan && list_all (is_run_sized s) p.layers.runs && list_all (is_short_change s is_short) (said p)

abbrev pub fits_depth : {V : Type 0} → Settings → Page V → Bool
fits_depth s p = nat_le (length p.layers.runs) s.chain

-- ---- its children

-- an index page has at least `least` children, and the first one's key is its own low key
pub record IsHeaded (least : ℕ) (p : Page ℕ) : Type 0 where
  pub some : least ≤ length (entries p)
  pub first : first_key (entries p) ≡ p.low

abbrev pub is_same_key : Bytes → Bytes → Bool
is_same_key j k = is_eq (order j k)

abbrev pub is_headed : ℕ → Page ℕ → Bool
is_headed least p = nat_le least (length (entries p)) && is_same_key (first_key (entries p)) p.low
