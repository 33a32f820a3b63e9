use Rattle.std.proofs.Common.{◌≡◌, ◌++◌, drop}
use Rattle.std.specs.Map.{keys_of}
use Rattle.delta_chain.specs.Lent.{pairs_lent}
use Rattle.delta_chain.proofs.pairs.blank_base.Given as goal

-- the keys so far, and those from the place on, are the keys
abbrev pub invariant-loop-entry : goal.invariant-loop-entry
invariant-loop-entry g l = keys_of l.builder ++ drop l.entry-index (keys_of (pairs_lent l.entries)) ≡ keys_of (pairs_lent l.entries)
