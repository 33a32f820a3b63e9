use Rattle.std.proofs.Common.{◌<◌, length, arith}
use Rattle.mapping.specs.TreeInMemory.{tree_of}
use Rattle.routing.proofs.DescentLemmas.{ready_share, ready_keys, not_missing, share_step}
use Rattle.routing.proofs.descent.one_level_down.Goals as goal

pub hand_down-requires-clause-share : goal.hand_down-requires-clause-share
hand_down-requires-clause-share c =
    let within : c.loop-share.share-index < length c.args.shares.now = omega arith in
    ready_share c.args.batch.now (tree_of c.args.tree.now).pages c.args.shares.now c.loop-share.share-index _ c.share-item.result _ c.in-Some.page.now within c.share-item.is c.pid.ensures c.requires.ready (c.in-Some.ensures.listed c.requires.home)

pub hand_down-requires-clause-keys : goal.hand_down-requires-clause-keys
hand_down-requires-clause-keys c =
    let within : c.loop-share.share-index < length c.args.shares.now = omega arith in
    ready_keys c.args.batch.now (tree_of c.args.tree.now).pages c.args.shares.now c.loop-share.share-index _ c.share-item.result within c.share-item.is c.requires.ready

pub unreachable-requires : goal.unreachable-requires
unreachable-requires c =
    let within : c.loop-share.share-index < length c.args.shares.now = omega arith in
    not_missing c.args.batch.now (tree_of c.args.tree.now).pages c.args.shares.now c.loop-share.share-index _ c.share-item.result _ within c.share-item.is c.pid.ensures c.requires.ready (c.in-None.ensures.listed c.requires.home)

pub loop-share-preserved : goal.loop-share-preserved
loop-share-preserved c =
    let within : c.loop-share.share-index < length c.args.shares.now = omega arith in
    let handed = c.in_ok-hand_down-in-Some.ensures in
    record {
      shares = share_step c.args.batch.now (tree_of c.args.tree.now).pages c.args.shares.now c.loop-share.below.items c.hand_down.new.below.items c.loop-share.share-index _ c.share-item.result _ c.in-Some.page.now _ within c.share-item.is c.pid.ensures c.requires.ready (c.in-Some.ensures.listed c.requires.home) handed.shares c.loop-share.invariant.shares;
      keys = handed.keys c.loop-share.invariant.keys;
    }
