use Rattle.std.proofs.Common.{◌≡◌, ◌++◌}
use Rattle.page_runs.proofs.changes.run_of.Given as goal

-- the run so far, and the remaining changes, are the changes
abbrev pub invariant-loop-key : goal.invariant-loop-key
invariant-loop-key l = l.run ++ l.key-iterator ≡ l.initial.key-iterator
