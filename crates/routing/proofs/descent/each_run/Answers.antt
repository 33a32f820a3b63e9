use Rattle.std.proofs.Common.{◌<◌, length, arith}
use Rattle.routing.proofs.BatchOrder.{order_step}
use Rattle.routing.specs.Shares.{HasEachPlaceOnce}
use Rattle.routing.proofs.ShareLemmas.{share_taken}
use Rattle.routing.proofs.descent.each_run.Goals as goal

pub loop-share-preserved : goal.loop-share-preserved
loop-share-preserved c =
    let within : c.loop-share.share-index < length c.args.shares.now = omega arith in
    order_step c.args.shares.now c.loop-share.share-index _ c.share-item.result c.loop-share.runs.items c.push.new.self.items _ within c.share-item.is c.loop-share.invariant c.in_ok-push.ensures.items c.in_ok-run.ensures

pub page_run_of-requires : goal.page_run_of-requires
page_run_of-requires c =
    let within : c.loop-share.share-index < length c.args.shares.now = omega arith in
    share_taken HasEachPlaceOnce c.args.shares.now c.loop-share.share-index _ c.share-item.result within c.share-item.is c.requires
