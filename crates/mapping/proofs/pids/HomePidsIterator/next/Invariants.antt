use Rattle.std.proofs.Common.{◌≡◌, drop}
use Rattle.mapping.specs.Slots.{home_pids}
use Rattle.mapping.proofs.pids.HomePidsIterator.next.Given as goal

-- before this slot there is no pid of a page in the table
abbrev pub invariant-loop-at : goal.invariant-loop-at
invariant-loop-at g l = home_pids (drop l.at l.ahead) ≡ home_pids l.ahead
