use Rattle.std.proofs.Common.{◌≡◌, ◌++◌}
use Rattle.engine.proofs.ordered_store.snapshots.Snapshot.to_map.Given as goal

-- the pairs so far and the pairs that are left are all pairs
abbrev pub invariant-loop-key : goal.invariant-loop-key
invariant-loop-key l = l.map ++ l.key-iterator ≡ l.fn.self.1
