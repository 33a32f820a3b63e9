use Rattle.std.proofs.Common.{◌≡◌, ◌+◌, ◌-◌, ◌^◌, ◌≤◌, min, drop}
use Rattle.flush_log.specs.Images.{frames_in}
use Rattle.engine.proofs.RoomLemmas.{lengths}
use Rattle.engine.proofs.store.room.with_images.Given as goal

-- the sum so far, and the bytes of the images from this one on, are the bytes of all
abbrev pub invariant-loop-image : goal.invariant-loop-image
invariant-loop-image l = record {
  fits : l.total ≤ 2 ^ 64 - 1;
  all : min (l.total + lengths (frames_in (drop l.image-index l.images))) (2 ^ 64 - 1) ≡ min (l.fn.bytes + lengths (frames_in l.images)) (2 ^ 64 - 1);
}
