use Rattle.std.proofs.Common.{◌++◌, ◌∷◌, [], ◌≤◌, ◌+◌, ◌-◌, length, take, drop, vec_len}
use Rattle.std.specs.Prelude.{vec_capacity}
use Rattle.std.specs.List.{AllByRecursion}
use Rattle.std.specs.Map.{keys_of}
use Rattle.keys.specs.Order.{IsRising}
use Rattle.delta_chain.specs.Layers.{with_run}
use Rattle.delta_chain.specs.Located.{keys_of_runs, located_from, keyed, IsIn}
use Rattle.delta_chain.proofs.LocatorLemmas.{Laid}
use Rattle.delta_chain.proofs.locators.insert_newest.Given as goal

-- the locators before the place are merged; the rest of the run laid over the locators from it on, they are the run laid over the list; and there is room for the rest
abbrev pub invariant-loop-at : goal.invariant-loop-at
invariant-loop-at g l =
    let runs = keys_of_runs l.runs in
    let keys = keys_of l.run in
    let now = l.locators.items in
    record {
      from : l.from ≤ length now;
      all : AllByRecursion (IsIn runs) (drop l.from now);
      rising : IsRising (keyed runs (drop l.from now));
      merged : AllByRecursion (IsIn (runs ++ keys ∷ [])) (take l.from now);
      laid : Laid runs keys (with_run (keyed runs l.fn.locators.items) (located_from (length runs) 0 keys)) (take l.from now) (drop l.from now) l.at;
      room : vec_len l.locators + (length l.run - l.at) ≤ vec_capacity l.locators;
    }
