-- The table that a list of slots represents.
use Rattle.std.specs.Prelude.{◌≡◌, ℕ, ◌<◌, ◌≤◌, Bool, true, false, ◌||◌, List, [], ◌∷◌, map, take, drop, flat_map, length, slice_get, Option, Some, None, is_some}
use Rattle.std.specs.List.{AllByRecursion, filter}
use Rattle.mapping.specs.Tree.{Logged}
use Rattle.mapping.specs.Tree.Logged.{No, Old, Upto}
use Rattle.mapping.specs.FreshPids.{is_among}
use Rattle.mapping.specs.Proper.{AreRisingPids}
use Rattle.mapping.specs.Table.{Mapping, pids_in_use, is_old}
use Rattle.mapping.specs.LogState.{log_state}
use Rattle.mapping.specs.declared.slots.TablePlace.{TablePlace}
use Rattle.mapping.specs.declared.slots.TablePlace.TheVariants.{Vacant, Away, Home}
use Rattle.mapping.specs.declared.slots.TableSlot.{TableSlot}

-- the listed place: nothing if the pid has no place
abbrev pub listed_place : {P : Type 0} → TablePlace P → Option (Option P)
listed_place Vacant = None
listed_place Away = Some None
listed_place (Home p) = Some (Some p)

-- the listed log state: nothing for `No`
abbrev pub listed_state : Logged → Option Logged
listed_state No = None
listed_state Old = Some Old
listed_state (Upto k) = Some (Upto k)

-- a list of one entry, or of none
abbrev pub entry_if : {V : Type 0} → ℕ → Option V → List (ℕ × V)
entry_if pid None = []
entry_if pid (Some v) = (pid, v) ∷ []

-- the pids of slots
abbrev pub slot_pids : {P : Type 0} → List (TableSlot P) → List ℕ
slot_pids ss = map (λ s. s.pid) ss

-- the places of the slots that have one, and the log states other than `No`
abbrev pub table_of : {P : Type 0} → List (TableSlot P) → Mapping P
table_of ss = record {
  places = flat_map (λ s. entry_if s.pid (listed_place s.page)) ss;
  logged = flat_map (λ s. entry_if s.pid (listed_state (log_state s.logged))) ss;
}

-- the slot's pid has a place, or its log state is `Old`
abbrev pub is_known : {P : Type 0} → TableSlot P → Bool
is_known s = is_some (listed_place s.page) || is_old (log_state s.logged)

-- the pids of such slots
abbrev pub known_pids : {P : Type 0} → List (TableSlot P) → List ℕ
known_pids ss = slot_pids (filter is_known ss)

-- the slot's page is in the table
abbrev pub is_home_place : {P : Type 0} → TablePlace P → Bool
is_home_place Vacant = false
is_home_place Away = false
is_home_place (Home p) = true

abbrev pub is_home : {P : Type 0} → TableSlot P → Bool
is_home s = is_home_place s.page

-- the pids of such slots
abbrev pub home_pids : {P : Type 0} → List (TableSlot P) → List ℕ
home_pids ss = slot_pids (filter is_home ss)

-- the pid is at this index
abbrev pub StandsAt : List ℕ → ℕ → ℕ → Type 0
StandsAt pids pid at = slice_get pids at ≡ Some pid

-- the pid is not in the list, and would be inserted at this index
pub record GoesTo (pids : List ℕ) (pid : ℕ) (at : ℕ) : Type 0 where
  pub within : at ≤ length pids
  pub below : AllByRecursion (λ n. n < pid) (take at pids)
  pub above : AllByRecursion (λ n. pid < n) (drop at pids)

-- all numbers below this one have a place
abbrev pub AreInUseBelow : {P : Type 0} → Mapping P → ℕ → Type 0
AreInUseBelow t n = (k : ℕ) → k < n → is_among k (pids_in_use t) ≡ true

-- slots by rising pid, with a number below which all numbers are in use
pub record AreSlots {P : Type 0} (ss : List (TableSlot P)) (filled : ℕ) : Type 0 where
  pub rising : AreRisingPids (slot_pids ss)
  pub in_use : AreInUseBelow (table_of ss) filled
