use Rattle.std.proofs.Common.{◌≡◌, ◌++◌, drop, length, vec_len}
use Rattle.std.specs.Prelude.{vec_capacity}
use Rattle.delta_chain.specs.Lent.{pairs_lent}
use Rattle.split_plan.proofs.group_work.index_pages.Given as goal

-- the entries so far, and the separators from the place on, are the separators; and there is room for the rest
abbrev pub invariant-loop-name : goal.invariant-loop-name
invariant-loop-name l = record {
  made : pairs_lent l.entries.items ++ drop l.name-index l.names ≡ l.names;
  count : vec_len l.entries ≡ l.name-index;
  room : vec_capacity l.entries ≡ length l.names;
}
