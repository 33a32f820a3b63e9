-- Where the newest change of each key is among the runs of a page.
use Rattle.std.specs.Prelude.{◌≡◌, ℕ, suc, ◌<◌, ◌≤◌, ◌^◌, List, [], ◌∷◌, length, map, reverse, get_or, set, slice_get, Option, Some, None, Result, MatchResult}
use Rattle.std.specs.List.{AllByRecursion, insert}
use Rattle.std.specs.Map.{keys_of, values_of}
use Rattle.keys.specs.Bytes.{Bytes, Pairs, Changes}
use Rattle.keys.specs.OrderedMap.{value_at, with_pair}
use Rattle.keys.specs.Words.{first_word, IsWordOf}
use Rattle.delta_chain.specs.Exchange.{exchanged_at}
use Rattle.delta_chain.specs.Layers.{with_run}
use Rattle.delta_chain.specs.declared.locators.Locator.{Locator}

-- the keys of each run
abbrev pub keys_of_runs : {V : Type 0} → List (Changes V) → List (List Bytes)
keys_of_runs {V} runs = map {B = List Bytes} (λ (run : Changes V). keys_of run) runs

-- the keys of a run's changes from a place on, each with its locator
abbrev pub located_from : ℕ → ℕ → List Bytes → Changes Locator
located_from run at [] = []
located_from run at (k ∷ ks) = (k, Some (record { word = first_word k; run = run; at = at })) ∷ located_from run (suc at) ks

-- each key that runs contain, with the locator of its newest change; the keys of the runs are given newest first
abbrev pub newest_locators : List (List Bytes) → Pairs Locator
newest_locators [] = []
newest_locators (run ∷ older) = with_run (newest_locators older) (located_from (length older) 0 run)

-- the key at a locator; the keys of the runs are given oldest first
abbrev pub key_at : List (List Bytes) → Locator → Bytes
key_at runs l = get_or (get_or runs l.run []) l.at []

-- the change at a locator; the runs are given oldest first
abbrev pub change_at : {V : Type 0} → List (Changes V) → Locator → Option V
change_at runs l = get_or (values_of (get_or runs l.run [])) l.at None

-- the runs with another change at a locator
abbrev pub exchanged_in : {V : Type 0} → List (Changes V) → Locator → Option V → List (Changes V)
exchanged_in runs l change = set runs l.run (exchanged_at (get_or runs l.run []) l.at change)

-- the keys at locators, each with its locator
abbrev pub keyed : List (List Bytes) → List Locator → Pairs Locator
keyed runs locators = map {B = Bytes × Locator} (λ (l : Locator). (key_at runs l, l)) locators

-- the changes at locators, each with its key; the runs are given oldest first
abbrev pub changes_of : {V : Type 0} → List (Changes V) → List Locator → Changes V
changes_of {V} runs locators = map {B = Bytes × Option V} (λ (l : Locator). (key_at (keys_of_runs runs) l, change_at runs l)) locators

-- the locator is that of a key of these runs, and its word is the key's
pub record IsIn (runs : List (List Bytes)) (l : Locator) : Type 0 where
  pub run : l.run < length runs
  pub at : l.at < length (get_or runs l.run [])
  pub word : IsWordOf l.word (key_at runs l)

-- 32 bits hold the number of each run and each place in it
pub record AreNumbered (runs : List (List Bytes)) : Type 0 where
  pub count : length runs ≤ 2 ^ 32
  pub places : AllByRecursion (λ (keys : List Bytes). length keys ≤ 2 ^ 32) runs

-- these are the locators of the newest changes of runs, whose keys are given oldest first
pub record AreNewest (runs : List (List Bytes)) (locators : List Locator) : Type 0 where
  pub all : AllByRecursion (IsIn runs) locators
  pub keys : keyed runs locators ≡ newest_locators (reverse runs)

-- the result of a search for a key among entries: its place, or the place where it would be inserted
abbrev pub IsSearched : {T : Type 0} → Bytes → Pairs T → Result ℕ ℕ → Type 0
IsSearched {T} k es r =
    MatchResult r
    (λ at. (at < length es) × (slice_get (keys_of es) at ≡ Some k) × (value_at k es ≡ slice_get (values_of es) at))
    (λ at. (at ≤ length es) × (value_at k es ≡ None) × ((item : T) → with_pair es k item ≡ insert es at (k, item)))
