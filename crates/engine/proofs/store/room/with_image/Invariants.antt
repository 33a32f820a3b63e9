use Rattle.std.proofs.Common.{◌≡◌, ◌+◌, ◌-◌, ◌^◌, ◌≤◌, min, drop}
use Rattle.engine.proofs.RoomLemmas.{lengths}
use Rattle.engine.proofs.store.room.with_image.Given as goal

-- the sum so far, and the bytes of the frames from this place on, are the bytes of all
abbrev pub invariant-loop-at : goal.invariant-loop-at
invariant-loop-at l = record {
  fits : l.total ≤ 2 ^ 64 - 1;
  all : min (l.total + lengths (drop l.at l.image)) (2 ^ 64 - 1) ≡ min (l.fn.bytes + lengths l.image) (2 ^ 64 - 1);
}
