use Rattle.std.proofs.Common.{◌≡◌, ◌+◌, ◌≤◌, min, length}
use Rattle.delta_chain.specs.Layers.{holds}
use Rattle.page_search.specs.Costs.{find_cost, find_least}
use Rattle.page_search.proofs.search.find_lent.Given as goal

-- no run so far contains the key: the rest of the page holds what the page holds, and costs the rest
abbrev pub invariant-loop-run : goal.invariant-loop-run
invariant-loop-run g l = record {
  value : holds l.rest l.key ≡ holds l.fn.chain l.key;
  cost : l.probes + find_cost l.key l.rest ≤ l.fn.probes + find_cost l.key l.fn.chain;
  least : min (l.fn.probes + find_least l.key l.fn.chain) 18446744073709551615 ≤ min (l.probes + find_least l.key l.rest) 18446744073709551615;
  kept : l.fn.probes ≤ l.probes;
}

abbrev pub decreases-loop-run : goal.decreases-loop-run
decreases-loop-run g l = length l.rest.runs
