use Rattle.std.proofs.Common.{◌+◌, ◌-◌, ◌^◌, min, drop, ap, arith}
use Rattle.std.proofs.lemmas.List.{at_drop_all}
use Rattle.flush_log.specs.Images.{frames_in}
use Rattle.flush_log.proofs.ReachLemmas.{front_item}
use Rattle.engine.proofs.RoomLemmas.{lengths, next-image, all-bytes}
use Rattle.engine.proofs.store.room.with_images.Goals as goal

pub loop-image-preserved : goal.loop-image-preserved
loop-image-preserved c =
    let all = c.args.images.now in
    let at = c.loop-image.image-index in
    let next = front_item all at c.image-item.result (omega arith) c.image-item.is in
    let added = c.with_image-total.ensures in
    record {
      fits = omega (arith, added);
      all = next-image c.loop-image.total c.with_image-total.result (frames_in (drop at all)) (frames_in (drop (at + 1) all)) c.image-item.result (min (c.args.bytes + lengths (frames_in all)) (2 ^ 64 - 1)) (ap frames_in next) c.loop-image.invariant.all added;
    }

pub returns : goal.returns
returns c =
    let all = c.args.images.now in
    let none = at_drop_all frames_in all c.loop-image.image-index c.loop-image-test.false in
    all-bytes c.loop-image.total (frames_in (drop c.loop-image.image-index all)) (min (c.args.bytes + lengths (frames_in all)) (2 ^ 64 - 1)) none c.loop-image.invariant.fits c.loop-image.invariant.all
