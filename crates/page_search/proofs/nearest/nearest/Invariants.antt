use Rattle.std.proofs.Common.{◌+◌, ◌*◌, ◌≤◌, ℕ, List, Option, Some, min}
use Rattle.delta_chain.specs.Layers.{holds}
use Rattle.delta_chain.specs.Merging.{joined_changes}
use Rattle.page_search.specs.Costs.{walk_most, walk_least}
use Rattle.page_search.specs.Nearest.{named_by, IsNearest, count_passed}
use Rattle.page_search.proofs.NearestLemmas.{count_named}
use Rattle.page_search.proofs.nearest.nearest.Given as goal

-- The nearest entry from the present bound on is the nearest entry from the first key on. The remaining search may cost as much as the whole search
-- may, less the comparisons so far. If the page holds the nearest key of its lists, no pass has been completed yet.
abbrev pub invariant-loop-found : goal.invariant-loop-found
invariant-loop-found g l = record {
  same : (x : Option (List ℕ × g.row.V.Denot)) → IsNearest l.side l.bound (holds l.lists) x → IsNearest l.fn.side l.key (holds l.lists) x;
  cost : (x : Option (List ℕ × g.row.V.Denot)) → IsNearest l.side l.bound (holds l.lists) x →
      l.probes + count_passed l.side l.bound x (joined_changes l.lists.runs) * walk_most l.lists ≤ l.fn.probes + count_passed l.fn.side l.key x (joined_changes l.lists.runs) * walk_most l.lists;
  one_walk : (e : List ℕ × g.row.V.Denot) → IsNearest l.fn.side l.key (named_by l.lists) (Some (e.0, Some e.1)) →
      IsNearest l.side l.bound (named_by l.lists) (Some (e.0, Some e.1)) × (l.probes ≤ l.fn.probes);
  least : (after : ℕ) → min (l.probes + walk_least l.bound l.lists) 18446744073709551615 ≤ after → min (l.fn.probes + walk_least l.key l.lists) 18446744073709551615 ≤ after;
  kept : l.fn.probes ≤ l.probes;
}

abbrev pub decreases-loop-found : goal.decreases-loop-found
decreases-loop-found g l = count_named l.side l.bound l.lists.runs l.lists.base
