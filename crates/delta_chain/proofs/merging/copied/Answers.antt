use Rattle.std.proofs.Common.{arith}
use Rattle.delta_chain.proofs.Places.{push_pair}
use Rattle.delta_chain.proofs.merging.copied.Goals as goal

pub loop-at-preserved : goal.loop-at-preserved
loop-at-preserved g c = record {
  made = rw (c.push_reserved.ensures.items, c.in_ok-key.ensures, c.in_ok-cell.ensures) (push_pair c.loop-at.all.items c.args.pairs.now c.args.pairs.now c.loop-at.at c.key.result.now c.cell.result.now c.key.ensures c.cell.ensures c.loop-at.invariant.made);
  count = omega (arith, c.push_reserved.ensures.len);
  room = rw c.push_reserved.ensures.capacity c.loop-at.invariant.room;
}
