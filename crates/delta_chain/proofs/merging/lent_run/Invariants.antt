use Rattle.std.proofs.Common.{◌≡◌, ◌++◌, drop, length, vec_len}
use Rattle.std.specs.Prelude.{vec_capacity}
use Rattle.delta_chain.specs.Lent.{pairs_lent}
use Rattle.delta_chain.proofs.merging.lent_run.Given as goal

-- the pairs so far, and those from the place on, are the run; and there is room for the rest
abbrev pub invariant-loop-at : goal.invariant-loop-at
invariant-loop-at g l = record {
  made : pairs_lent l.lent.items ++ drop l.at l.run ≡ l.run;
  count : vec_len l.lent ≡ l.at;
  room : vec_capacity l.lent ≡ length l.run;
}
