use Rattle.std.specs.List.Sorted.{IsStrictlySortedBy}
use Rattle.delta_chain.proofs.entries.Entries.with_capacity.Goals as goal

pub invariant_of-result : goal.invariant_of-result
unfolding IsStrictlySortedBy
invariant_of-result g c = rw c.in_ok-list.ensures.items tt
