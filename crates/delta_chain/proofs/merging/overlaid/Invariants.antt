use Rattle.std.proofs.Common.{◌≡◌, ◌++◌, ◌+◌, ◌-◌, ◌≤◌, drop, length, vec_len}
use Rattle.std.specs.Prelude.{vec_capacity}
use Rattle.delta_chain.specs.Layers.{with_run}
use Rattle.delta_chain.specs.Lent.{pairs_lent}
use Rattle.delta_chain.specs.Merging.{asserted, overlaid}
use Rattle.delta_chain.proofs.merging.overlaid.Given as goal

-- the changes so far, and the rest of the run laid over the rest of the older ones, are what they come to; there is
-- room for both
abbrev pub invariant-loop-at : goal.invariant-loop-at
invariant-loop-at g l = record {
  place : l.from ≤ length l.older;
  turn : l.at ≤ length l.newer;
  count : vec_len l.lent ≤ l.from + l.at;
  room : vec_capacity l.lent ≡ length l.older + length l.newer;
  made : pairs_lent l.lent.items ++ with_run (drop l.from l.older) (drop l.at (asserted l.newer)) ≡ overlaid l.older l.newer;
}

abbrev pub decreases-loop-at : goal.decreases-loop-at
decreases-loop-at g l = (length l.older - l.from) + (length l.newer - l.at)
