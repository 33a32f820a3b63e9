use Rattle.std.proofs.Common.{take}
use Rattle.engine.specs.Compacted.{HasLeavesAt}
use Rattle.engine.proofs.store.compact.leaves_at.Given as goal

-- the page ids so far have leaves
abbrev pub invariant-loop-pid : goal.invariant-loop-pid
invariant-loop-pid l = HasLeavesAt (take l.pid-index l.pids) l.table
