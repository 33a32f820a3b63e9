use Rattle.std.proofs.Common.{◌≡◌, ◌++◌, ◌+◌, ◌-◌, ◌≤◌, drop, length, vec_len}
use Rattle.std.specs.Prelude.{vec_capacity}
use Rattle.delta_chain.specs.Lent.{pairs_lent}
use Rattle.split_plan.proofs.cutting.push_pairs.Given as goal

-- what is there, and the pairs from the place on, is what was there and the pairs; and there is room for the rest
abbrev pub invariant-loop-at : goal.invariant-loop-at
invariant-loop-at g l = record {
  made : pairs_lent l.entries.items ++ drop l.at l.pairs ≡ pairs_lent l.initial.entries.items ++ l.pairs;
  room : vec_len l.entries + (length l.pairs - l.at) ≤ vec_capacity l.entries;
}
