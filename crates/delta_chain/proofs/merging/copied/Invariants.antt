use Rattle.std.proofs.Common.{◌≡◌, ◌++◌, drop, length, vec_len}
use Rattle.std.specs.Prelude.{vec_capacity}
use Rattle.delta_chain.proofs.merging.copied.Given as goal

-- the copies so far, and the pairs from the place on, are the pairs; and there is room for the rest
abbrev pub invariant-loop-at : goal.invariant-loop-at
invariant-loop-at g l = record {
  made : l.all.items ++ drop l.at l.pairs ≡ l.pairs;
  count : vec_len l.all ≡ l.at;
  room : vec_capacity l.all ≡ length l.pairs;
}
