use Rattle.std.proofs.Common.{◌≡◌}
use Rattle.mapping.proofs.FlushedSlots.{so_far}
use Rattle.mapping.proofs.table.Table+Page+A+A.flushed.Given as goal

abbrev pub invariant-loop-slot : goal.invariant-loop-slot
invariant-loop-slot g l = l.slot-items ≡ so_far l.initial.slot-items l.slot-index
