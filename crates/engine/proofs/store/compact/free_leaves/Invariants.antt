use Rattle.std.proofs.Common.{take, []}
use Rattle.engine.specs.Compacted.{AreFreed}
use Rattle.engine.proofs.store.compact.free_leaves.Given as goal

-- the leaves of the page ids so far are freed
abbrev pub invariant-loop-pid : goal.invariant-loop-pid
invariant-loop-pid l = AreFreed l.pids [] l.initial.table → AreFreed l.pids (take l.pid-index l.pids) l.table
