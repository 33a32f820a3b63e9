use Rattle.std.proofs.Common.{◌≡◌, ◌≤◌, ◌<◌, ℕ, List, true, false, length, slice_get, Some, ◌-◌}
use Rattle.page_search.specs.Places.{count_below}
use Rattle.scan.proofs.EdgeLemmas.{is_up_to_prefix}
use Rattle.scan.proofs.edge.place_after_prefix.Given as goal

-- all keys before `low` are below the prefix or begin with it, and from `high` on none is or does
abbrev pub invariant-loop-low : goal.invariant-loop-low
invariant-loop-low g l = record {
  order : l.low ≤ l.high;
  within : l.high ≤ length (g.L.KeyList.keys l.list);
  from : count_below l.prefix (g.L.KeyList.keys l.list) ≤ l.low;
  begin : (m : ℕ) (j : List ℕ) → m < l.low → slice_get (g.L.KeyList.keys l.list) m ≡ Some j → is_up_to_prefix l.prefix j ≡ true;
  end : (m : ℕ) (j : List ℕ) → l.high ≤ m → slice_get (g.L.KeyList.keys l.list) m ≡ Some j → is_up_to_prefix l.prefix j ≡ false;
}

abbrev pub decreases-loop-low : goal.decreases-loop-low
decreases-loop-low g l = l.high - l.low
