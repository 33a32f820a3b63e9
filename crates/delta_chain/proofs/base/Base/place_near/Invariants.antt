use Rattle.std.proofs.Common.{◌-◌, ◌≤◌, length}
use Rattle.delta_chain.proofs.Setting.{BelowBefore, AboveFrom}
use Rattle.delta_chain.proofs.base.Base.place_near.Given as goal

-- the search continues in low..high: the key is above the keys before low and below the keys from high on
abbrev pub invariant-loop-low : goal.invariant-loop-low
invariant-loop-low g l = record {
  ordered : l.low ≤ l.high;
  within : l.high ≤ length l.self;
  below : BelowBefore l.self l.low l.key;
  above : AboveFrom l.self l.high l.key;
}

abbrev pub decreases-loop-low : goal.decreases-loop-low
decreases-loop-low g l = l.high - l.low
