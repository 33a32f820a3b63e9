use Rattle.std.proofs.Common.{◌≡◌, ◌++◌, ◌+◌, ◌-◌, ◌≤◌, drop, length, vec_len}
use Rattle.std.specs.Prelude.{vec_capacity}
use Rattle.delta_chain.specs.Layers.{with_run}
use Rattle.delta_chain.specs.Lent.{pairs_lent}
use Rattle.delta_chain.proofs.merging.with_run.Given as goal

-- the pairs so far, and the rest of the run applied to the rest of the lower pairs, are what they come to; there is
-- room for both
abbrev pub invariant-loop-at : goal.invariant-loop-at
invariant-loop-at g l = record {
  place : l.from ≤ length l.under;
  turn : l.at ≤ length l.run;
  count : vec_len l.lent ≤ l.from + l.at;
  room : vec_capacity l.lent ≡ length l.under + length l.run;
  made : pairs_lent l.lent.items ++ with_run (drop l.from l.under) (drop l.at l.run) ≡ with_run l.under l.run;
}

abbrev pub decreases-loop-at : goal.decreases-loop-at
decreases-loop-at g l = (length l.under - l.from) + (length l.run - l.at)
