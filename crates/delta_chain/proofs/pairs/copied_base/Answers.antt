use Rattle.std.proofs.Common.{◌<◌, length}
use Rattle.delta_chain.specs.Lent.{pairs_lent}
use Rattle.delta_chain.proofs.Lending.{length-pairs_lent, key_lent, cell_lent}
use Rattle.delta_chain.proofs.Places.{push_pair}
use Rattle.delta_chain.proofs.Rising.{goes_last-next}
use Rattle.delta_chain.proofs.pairs.copied_base.Goals as goal

pub push_next-requires : goal.push_next-requires
push_next-requires g c =
    let within : c.loop-entry.entry-index < length c.args.entries.now = c.loop-entry-test.true in
    let there : c.loop-entry.entry-index < length (pairs_lent c.args.entries.now) = rw (length-pairs_lent c.args.entries.now) within in
    let key = key_lent c.args.entries.now c.loop-entry.entry-index c.entry-item.result there c.entry-item.is in
    goes_last-next c.loop-entry.builder (pairs_lent c.args.entries.now) c.loop-entry.entry-index c.entry-item.result.0.now c.requires key c.loop-entry.invariant

pub loop-entry-preserved : goal.loop-entry-preserved
loop-entry-preserved g c =
    let within : c.loop-entry.entry-index < length c.args.entries.now = c.loop-entry-test.true in
    let there : c.loop-entry.entry-index < length (pairs_lent c.args.entries.now) = rw (length-pairs_lent c.args.entries.now) within in
    let key = key_lent c.args.entries.now c.loop-entry.entry-index c.entry-item.result there c.entry-item.is in
    let cell = cell_lent c.args.entries.now c.loop-entry.entry-index c.entry-item.result there c.entry-item.is in
    rw c.in_ok-push_next.ensures.ok (rw c.in_ok-cell.ensures (push_pair c.loop-entry.builder (pairs_lent c.args.entries.now) (pairs_lent c.args.entries.now) c.loop-entry.entry-index _ _ key cell c.loop-entry.invariant))
