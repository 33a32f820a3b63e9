use Rattle.std.proofs.Common.{ℕ, List, ◌+◌, ◌-◌, ◌^◌, min, drop, arith}
use Rattle.std.proofs.lemmas.List.{at_drop_all}
use Rattle.flush_log.proofs.ReachLemmas.{front}
use Rattle.engine.proofs.RoomLemmas.{lengths, next-bytes, all-bytes}
use Rattle.engine.proofs.store.room.with_image.Goals as goal

pub loop-at-preserved : goal.loop-at-preserved
loop-at-preserved c =
    let next = front c.args.image.now c.loop-at.at c.frame.result.now c.frame.ensures in
    let added = c.saturating_add-total.ensures in
    record {
      fits = omega (arith, added);
      all = next-bytes c.loop-at.total c.saturating_add-total.result (drop c.loop-at.at c.args.image.now) (drop (c.loop-at.at + 1) c.args.image.now) c.frame.result.now (min (c.args.bytes + lengths c.args.image.now) (2 ^ 64 - 1)) next c.loop-at.invariant.all added;
    }

pub returns : goal.returns
returns c =
    all-bytes c.loop-at.total (drop c.loop-at.at c.args.image.now) (min (c.args.bytes + lengths c.args.image.now) (2 ^ 64 - 1)) (at_drop_all (λ (fs : List (List ℕ)). fs) c.args.image.now c.loop-at.at (omega (arith, c.loop-at-test.false, c.len-at-end.ensures))) c.loop-at.invariant.fits c.loop-at.invariant.all
