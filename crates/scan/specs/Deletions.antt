-- Rank counters of the keys and of the bounds of the ranges that commands delete.
use Rattle.std.specs.Prelude.{◌≡◌, ◌-◌, ◌^◌, ◌≤◌, List, flat_map, map, length, Contains, Option, option_to_list}
use Rattle.std.specs.List.{AllByRecursion, filter}
use Rattle.std.specs.List.Sorted.{IsPermutation}
use Rattle.keys.specs.Bytes.{Bytes}
use Rattle.keys.specs.Range.{is_before}
use Rattle.keys.specs.declared.command.Command.{Command}
use Rattle.scan.specs.Ends.{Deletions, deleted_by, deleted, wiped_by}
use Rattle.scan.specs.RankCounter.{RankCounter, IsTally, below, up_to}
use Rattle.scan.specs.declared.taken.DeletionsBelow.{DeletionsBelow}

-- the lower bounds of ranges
abbrev pub lower_bounds : List (Bytes × Option Bytes) → List Bytes
lower_bounds ranges = map (λ range. range.0) ranges

-- the upper bounds of the ranges that have one
abbrev pub upper_bounds : List (Bytes × Option Bytes) → List Bytes
upper_bounds ranges = flat_map (λ range. option_to_list range.1) ranges

-- the lower and the upper bound of the range that a command deletes, and the bounds for all commands
abbrev pub lower_by : {A : Type 0} → Command A → List Bytes
lower_by c = lower_bounds (wiped_by c)

abbrev pub upper_by : {A : Type 0} → Command A → List Bytes
upper_by c = upper_bounds (wiped_by c)

abbrev pub all_lower : {A : Type 0} → List (Command A) → List Bytes
all_lower cs = flat_map lower_by cs

abbrev pub all_upper : {A : Type 0} → List (Command A) → List Bytes
all_upper cs = flat_map upper_by cs

-- the ranges that aren't empty
abbrev pub filled : List (Bytes × Option Bytes) → List (Bytes × Option Bytes)
filled ranges = filter (λ range. is_before range.1 range.0) ranges

-- a rank counter of deleted keys, one of lower bounds, and one of upper bounds
abbrev pub Tallies : Type 0
Tallies = RankCounter × RankCounter × RankCounter

-- exactly the bounds of these ranges are recorded, without those of empty ranges
pub record AreWiped (ranges : List (Bytes × Option Bytes)) (t : Tallies) : Type 0 where
  pub lower : IsTally (lower_bounds (filled ranges)) t.1
  pub upper : IsTally (upper_bounds (filled ranges)) t.2
  pub few : length ranges ≤ 2 ^ 64 - 1

-- exactly these deletions are recorded
pub record IsTaken (gone : Deletions) (t : Tallies) : Type 0 where
  pub deleted : IsTally gone.0 t.0
  pub few : length gone.0 ≤ 2 ^ 64 - 1
  pub wiped : AreWiped gone.1 t

-- what is deleted below a key
pub record IsTakenBelow (gone : Deletions) (key : Bytes) (t : DeletionsBelow) : Type 0 where
  pub deleted : t.deleted ≡ below key gone.0
  pub begun : t.begun ≡ below key (lower_bounds (filled gone.1))
  pub ended : t.ended ≡ up_to key (upper_bounds (filled gone.1))

-- what a command deletes is among the known keys
pub record IsReadyFor {A : Type 0} (c : Command A) (t : Tallies) : Type 0 where
  pub deleted : AllByRecursion (λ k. Contains t.0.0 k) (deleted_by c)
  pub lower : AllByRecursion (λ k. Contains t.1.0 k) (lower_by c)
  pub upper : AllByRecursion (λ k. Contains t.2.0 k) (upper_by c)

-- what all these commands delete is among the known keys
pub record AreReady {A : Type 0} (cs : List (Command A)) (t : Tallies) : Type 0 where
  pub deleted : IsPermutation (deleted cs) t.0.0
  pub lower : IsPermutation (all_lower cs) t.1.0
  pub upper : IsPermutation (all_upper cs) t.2.0

-- both have the same known keys
pub record HasKeysOf (t u : Tallies) : Type 0 where
  pub deleted : u.0.0 ≡ t.0.0
  pub lower : u.1.0 ≡ t.1.0
  pub upper : u.2.0 ≡ t.2.0
