use Rattle.std.proofs.Common.{◌≡◌, ◌++◌, drop, length, vec_len}
use Rattle.std.specs.Prelude.{vec_capacity}
use Rattle.delta_chain.specs.Lent.{pairs_lent}
use Rattle.delta_chain.specs.Located.{changes_of}
use Rattle.delta_chain.proofs.locators.lent_changes.Given as goal

-- the pairs so far, and those from the place on, are the changes; and there is room for the rest
abbrev pub invariant-loop-at : goal.invariant-loop-at
invariant-loop-at g l = record {
  made : pairs_lent l.lent.items ++ drop l.at (changes_of l.runs l.locators) ≡ changes_of l.runs l.locators;
  count : vec_len l.lent ≡ l.at;
  room : vec_capacity l.lent ≡ length l.locators;
}
