use Rattle.std.proofs.Common.{◌≡◌, ◌≤◌, length, drop}
use Rattle.std.specs.Prelude.{take}
use Rattle.std.specs.Map.{keys_of}
use Rattle.consolidate.specs.PutBack.{put_back}
use Rattle.consolidate.proofs.put_back.Given as goal

-- the cells from the place on are back, and the first ones are still in the base
abbrev pub invariant-loop-left : goal.invariant-loop-left
invariant-loop-left g l = record {
  within : l.left ≤ length l.fn.base;
  keys : keys_of l.base ≡ keys_of l.fn.base;
  here : take l.left l.base ≡ take l.left l.fn.base;
  back : l.chain ≡ put_back l.fn.chain (drop l.left l.fn.base);
}

abbrev pub decreases-loop-left : goal.decreases-loop-left
decreases-loop-left g l = l.left
