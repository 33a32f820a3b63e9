use Rattle.std.proofs.Common.{◌≡◌, ◌++◌, drop}
use Rattle.delta_chain.specs.Lent.{pairs_lent}
use Rattle.delta_chain.proofs.pairs.copied_base.Given as goal

-- the copies so far, and the entries from the place on, are the entries
abbrev pub invariant-loop-entry : goal.invariant-loop-entry
invariant-loop-entry g l = l.builder ++ drop l.entry-index (pairs_lent l.entries) ≡ pairs_lent l.entries
