use Rattle.std.proofs.Common.{◌≡◌, drop}
use Rattle.mapping.specs.Slots.{known_pids}
use Rattle.mapping.proofs.pids.PidsIterator.next.Given as goal

-- before this slot there is no known pid
abbrev pub invariant-loop-at : goal.invariant-loop-at
invariant-loop-at g l = known_pids (drop l.at l.slots) ≡ known_pids l.slots
