use Rattle.std.specs.List.Sorted.{IsStrictlySortedBy}
use Rattle.engine.proofs.ordered_store.snapshots.Snapshot.new.Goals as goal

pub invariant_of-result : goal.invariant_of-result
unfolding IsStrictlySortedBy
invariant_of-result c = rw c.empty.ensures tt
