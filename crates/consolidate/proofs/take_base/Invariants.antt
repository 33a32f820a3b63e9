use Rattle.std.proofs.Common.{◌≡◌}
use Rattle.std.specs.Prelude.{take}
use Rattle.std.specs.Map.{keys_of}
use Rattle.delta_chain.specs.Layers.{entries_of, IsInOrder}
use Rattle.consolidate.specs.PutBack.{put_back}
use Rattle.consolidate.proofs.Moving.{HoldsFrom}
use Rattle.consolidate.proofs.take_base.Given as goal

-- the base has the page's keys, and the cells of the first ones; these put back are the page that was, and of the others the page
-- holds what it held
abbrev pub invariant-loop-at : goal.invariant-loop-at
invariant-loop-at g l = record {
  keys : keys_of l.base ≡ keys_of (entries_of l.fn.chain);
  moved : take l.at l.base ≡ take l.at (entries_of l.fn.chain);
  back : put_back l.chain (take l.at (entries_of l.fn.chain)) ≡ l.fn.chain;
  order : IsInOrder l.chain;
  rest : HoldsFrom l.fn.chain l.chain l.at;
}
