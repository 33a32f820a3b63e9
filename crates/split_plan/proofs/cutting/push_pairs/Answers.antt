use Rattle.std.proofs.Common.{arith}
use Rattle.delta_chain.specs.Lent.{pairs_lent}
use Rattle.delta_chain.proofs.Lending.{pairs_lent-push}
use Rattle.delta_chain.proofs.Places.{push_pair}
use Rattle.split_plan.proofs.cutting.push_pairs.Goals as goal

pub loop-at-preserved : goal.loop-at-preserved
loop-at-preserved g c = record {
  made = rw (c.push_reserved.ensures.items, pairs_lent-push) (push_pair (pairs_lent c.loop-at.entries.items) c.args.pairs.now _ c.loop-at.at c.key.result.now c.cell.result.now c.key.ensures c.cell.ensures c.loop-at.invariant.made);
  room = omega (arith, c.push_reserved.ensures.len, c.push_reserved.ensures.capacity);
}
