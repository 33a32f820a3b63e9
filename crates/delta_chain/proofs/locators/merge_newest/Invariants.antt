use Rattle.std.proofs.Common.{◌++◌, ◌∷◌, [], length}
use Rattle.std.specs.List.{AllByRecursion}
use Rattle.std.specs.Map.{keys_of}
use Rattle.keys.specs.Order.{IsRising}
use Rattle.delta_chain.specs.Layers.{with_run}
use Rattle.delta_chain.specs.Located.{keys_of_runs, located_from, keyed, IsIn}
use Rattle.delta_chain.proofs.LocatorLemmas.{Laid}
use Rattle.delta_chain.proofs.locators.merge_newest.Given as goal

-- the merged locators so far, and the rest of the run laid over the rest of the list, are the run laid over the list
abbrev pub invariant-loop-at : goal.invariant-loop-at
invariant-loop-at g l =
    let runs = keys_of_runs l.runs in
    let keys = keys_of l.run in
    record {
      all : AllByRecursion (IsIn runs) l.rest;
      rising : IsRising (keyed runs l.rest);
      merged : AllByRecursion (IsIn (runs ++ keys ∷ [])) l.merged.items;
      laid : Laid runs keys (with_run (keyed runs l.locators) (located_from (length runs) 0 keys)) l.merged.items l.rest l.at;
    }
