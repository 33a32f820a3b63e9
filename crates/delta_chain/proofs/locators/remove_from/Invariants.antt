use Rattle.std.proofs.Common.{◌≡◌, ◌≤◌, length, take, drop}
use Rattle.std.specs.List.{AllByRecursion}
use Rattle.std.specs.Map.{keys_of}
use Rattle.delta_chain.specs.Located.{keys_of_runs, IsIn}
use Rattle.delta_chain.proofs.LocatorLemmas.{Passed}
use Rattle.delta_chain.proofs.locators.remove_from.Given as goal

-- up to the place, the keys that an older run contains were kept
abbrev pub invariant-loop-at : goal.invariant-loop-at
invariant-loop-at g l = record {
  kept : l.kept ≤ l.at;
  count : length l.locators.items ≡ length l.fn.locators.items;
  rest : drop l.at l.locators.items ≡ drop l.at l.fn.locators.items;
  all : AllByRecursion (IsIn (keys_of_runs l.older)) (take l.kept l.locators.items);
  passed : Passed (keys_of_runs l.older) (keys_of l.newest) l.fn.locators.items l.locators.items l.kept l.at;
}
