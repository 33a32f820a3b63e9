use Rattle.std.proofs.Common.{◌<◌, length}
use Rattle.std.specs.Map.{keys_of}
use Rattle.delta_chain.specs.Lent.{pairs_lent}
use Rattle.delta_chain.proofs.Lending.{length-pairs_lent, key_lent}
use Rattle.delta_chain.proofs.Rising.{goes_last-next_key, push_key}
use Rattle.delta_chain.proofs.pairs.blank_base.Goals as goal

pub push_next-requires : goal.push_next-requires
push_next-requires g c =
    let within : c.loop-entry.entry-index < length c.args.entries.now = c.loop-entry-test.true in
    let there : c.loop-entry.entry-index < length (pairs_lent c.args.entries.now) = rw (length-pairs_lent c.args.entries.now) within in
    let key = key_lent c.args.entries.now c.loop-entry.entry-index c.entry-item.result there c.entry-item.is in
    goes_last-next_key c.loop-entry.builder (keys_of (pairs_lent c.args.entries.now)) c.loop-entry.entry-index c.entry-item.result.0.now c.requires key c.loop-entry.invariant

pub loop-entry-preserved : goal.loop-entry-preserved
loop-entry-preserved g c =
    let within : c.loop-entry.entry-index < length c.args.entries.now = c.loop-entry-test.true in
    let there : c.loop-entry.entry-index < length (pairs_lent c.args.entries.now) = rw (length-pairs_lent c.args.entries.now) within in
    let key = key_lent c.args.entries.now c.loop-entry.entry-index c.entry-item.result there c.entry-item.is in
    rw c.in_ok-push_next.ensures.ok (push_key c.loop-entry.builder (keys_of (pairs_lent c.args.entries.now)) c.loop-entry.entry-index c.entry-item.result.0.now c.blank.result key c.loop-entry.invariant)
