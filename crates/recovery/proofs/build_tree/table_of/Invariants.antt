use Rattle.std.proofs.Common.{map}
use Rattle.recovery.specs.Rebuild.{held_log}
use Rattle.recovery.proofs.BuildLemmas.{AreAside}
use Rattle.recovery.proofs.build_tree.table_of.Given as goal

-- the table, the logs that are put aside, and the remaining pages are all
abbrev pub invariant-loop-entry : goal.invariant-loop-entry
invariant-loop-entry g l = AreAside l.work.format l.table (map held_log l.logs.items) l.entry-iterator l.fn.by_pid.entries
