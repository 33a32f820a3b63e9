use Rattle.delta_chain.proofs.Packing.{IsPacked-empty}
use Rattle.delta_chain.proofs.base.Base.empty.Goals as goal

pub invariant_of-result : goal.invariant_of-result
invariant_of-result g c = rw (c.new.ensures.items, c.new-2.ensures.items, c.new-3.ensures.items) (IsPacked-empty, tt)
