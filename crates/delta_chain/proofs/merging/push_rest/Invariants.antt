use Rattle.std.proofs.Common.{◌≡◌, ◌++◌, ◌+◌, ◌-◌, ◌≤◌, drop, length, vec_len}
use Rattle.std.specs.Prelude.{vec_capacity}
use Rattle.delta_chain.specs.Lent.{pairs_lent}
use Rattle.delta_chain.proofs.merging.push_rest.Given as goal

-- the pairs so far, and those from the place on, are what they come to; and there is room for the rest
abbrev pub invariant-loop-at : goal.invariant-loop-at
invariant-loop-at g l = record {
  made : pairs_lent l.lent.items ++ drop l.at l.under ≡ pairs_lent l.initial.lent.items ++ drop l.from l.under;
  room : vec_len l.lent + (length l.under - l.at) ≤ vec_capacity l.lent;
}
