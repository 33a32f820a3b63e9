use Rattle.std.proofs.Common.{◌≡◌, take}
use Rattle.mapping.specs.Flushed.{marked}
use Rattle.mapping.proofs.flush.mark_all.Given as goal

-- the slots of the pids so far are marked
abbrev pub invariant-loop-pid : goal.invariant-loop-pid
invariant-loop-pid g l = l.slots.items ≡ marked l.initial.slots.items (take l.pid-index l.pids)
