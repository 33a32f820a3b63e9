use Rattle.std.proofs.Common.{arith}
use Rattle.delta_chain.specs.Lent.{pairs_lent}
use Rattle.delta_chain.proofs.Lending.{pairs_lent-push}
use Rattle.delta_chain.proofs.Places.{push_pair}
use Rattle.delta_chain.proofs.merging.lent_run.Goals as goal

pub loop-at-preserved : goal.loop-at-preserved
loop-at-preserved g c = record {
  made = rw (c.push_reserved.ensures.items, pairs_lent-push) (push_pair (pairs_lent c.loop-at.lent.items) c.args.run.now c.args.run.now c.loop-at.at c.key.result.now c.item.result.now c.key.ensures c.item.ensures c.loop-at.invariant.made);
  count = omega (arith, c.push_reserved.ensures.len);
  room = rw c.push_reserved.ensures.capacity c.loop-at.invariant.room;
}
