use Rattle.std.proofs.Common.{◌∙◌, ◌-◌, arith}
use Rattle.delta_chain.proofs.Exchanging.{keys-exchanged_at}
use Rattle.consolidate.proofs.Moving.{within_left, left_one_fewer}
use Rattle.consolidate.proofs.put_back.Goals as goal

pub exchange-cell-requires : goal.exchange-cell-requires
exchange-cell-requires g c = within_left c.loop-left.base c.args.base c.loop-left.left c.loop-left.invariant.keys c.loop-left.invariant.within (omega (arith, c.loop-left-test.true))

pub key_ref-requires : goal.key_ref-requires
key_ref-requires g c =
    rw c.exchange-cell.ensures.new (within_left _ c.args.base c.loop-left.left (keys-exchanged_at c.loop-left.base _ c.blank.result ∙ c.loop-left.invariant.keys) c.loop-left.invariant.within (omega (arith, c.loop-left-test.true)))

pub loop-left-preserved : goal.loop-left-preserved
loop-left-preserved g c =
    let key = rw c.exchange-cell.ensures.new at c.key_ref.ensures in
    let next = left_one_fewer c.args.chain.now c.loop-left.chain c.args.base c.loop-left.base c.loop-left.left (c.loop-left.left - 1) c.key_ref.result c.exchange-cell.result c.blank.result (omega (arith, c.loop-left-test.true)) c.loop-left.invariant.keys c.loop-left.invariant.here c.loop-left.invariant.back key c.exchange-cell.ensures.held in
    record {
      within = omega (arith, c.loop-left.invariant.within);
      keys = rw c.exchange-cell.ensures.new (keys-exchanged_at c.loop-left.base (c.loop-left.left - 1) c.blank.result ∙ c.loop-left.invariant.keys);
      here = rw c.exchange-cell.ensures.new next.0;
      back = rw c.swap_cell.ensures.page next.1;
    }
