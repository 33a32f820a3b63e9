use Rattle.std.proofs.Common.{◌-◌, ◌≤◌, length}
use Rattle.delta_chain.specs.Located.{keys_of_runs, keyed}
use Rattle.delta_chain.proofs.Setting.{BelowBefore, AboveFrom}
use Rattle.delta_chain.proofs.locators.search_near.Given as goal

-- the search continues in low..high: the key is above the keys before low and below the keys from high on
abbrev pub invariant-loop-low : goal.invariant-loop-low
invariant-loop-low g l = record {
  ordered : l.low ≤ l.high;
  within : l.high ≤ length l.locators;
  below : BelowBefore (keyed (keys_of_runs l.runs) l.locators) l.low l.key;
  above : AboveFrom (keyed (keys_of_runs l.runs) l.locators) l.high l.key;
}

abbrev pub decreases-loop-low : goal.decreases-loop-low
decreases-loop-low g l = l.high - l.low
