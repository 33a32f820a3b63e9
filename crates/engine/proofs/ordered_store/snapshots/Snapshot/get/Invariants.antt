use Rattle.std.proofs.Common.{◌≡◌}
use Rattle.keys.specs.OrderedMap.{value_at}
use Rattle.engine.proofs.ordered_store.snapshots.Snapshot.get.Given as goal

-- the remaining pairs have the value of all pairs at the key
abbrev pub invariant-loop-own : goal.invariant-loop-own
invariant-loop-own l = value_at l.fn.key l.own-iterator ≡ value_at l.fn.key l.fn.self.1
