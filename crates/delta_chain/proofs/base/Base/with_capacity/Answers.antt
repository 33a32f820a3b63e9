use Rattle.delta_chain.proofs.Packing.{IsPacked-empty}
use Rattle.delta_chain.proofs.base.Base.with_capacity.Goals as goal

pub invariant_of-result : goal.invariant_of-result
invariant_of-result g c = rw (c.in_ok-bytes.ensures.items, c.in_ok-marks.ensures.items, c.in_ok-cells.ensures.items) (IsPacked-empty, tt)
