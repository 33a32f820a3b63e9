use Rattle.std.proofs.Common.{◌≡◌, ◌+◌, ◌<◌, ◌∙◌, true, sym, take, arith}
use Rattle.frame_codec.specs.declared.format.KeyEncoding.TheVariants.{PrefixCompressed}
use Rattle.frame_codec.proofs.EachLemmas.{read-many}
use Rattle.frame_codec.proofs.FoundLemmas.{bytes-fit}
use Rattle.frame_codec.proofs.SkimLemmas.{passed-none, passed-ends, passed-falls, passed-next, passed-done, last_of, last_of-next, last_of-above, last_of-falls, shared-taken}
use Rattle.frame_codec.proofs.skim.skim_shared.Goals as goal
use Rattle.frame_codec.proofs.skim.skim_shared.Goals.{else-at-gt0-via-then-at-gt0+else-not-rises, else-at-gt0-via-else-at-gt0}

pub returns-then-count-settings : goal.returns-then-count-settings
returns-then-count-settings g c =
    read-many c.args.settings.now (g.C.FrameItem.is_short c.args.settings.now) PrefixCompressed g.C.FrameItem.codec c.args.low.now c.args.count c.args.bytes.now c.if-count-settings.true

pub loop-at-init : goal.loop-at-init
loop-at-init g c = rw c.of_low-last.ensures (passed-none c.args.settings.now (g.C.FrameItem.is_short c.args.settings.now) PrefixCompressed g.C.FrameItem.codec (take 510 c.args.low.now) c.args.count c.args.bytes.now)

pub returns-in_err-rises : goal.returns-in_err-rises
returns-in_err-rises g c =
    rw c.from_residual.ensures (
    sym (shared-taken c.args.settings.now (g.C.FrameItem.is_short c.args.settings.now) g.C.FrameItem.codec c.args.low.now c.args.count c.args.bytes.now (bytes-fit c.args.bytes.now c.type_inv.bytes))
    ∙ passed-ends c.args.settings.now (g.C.FrameItem.is_short c.args.settings.now) PrefixCompressed g.C.FrameItem.codec (take 510 c.args.low.now) c.args.count c.args.bytes.now
    c.loop-at.at (last_of c.loop-at.at c.loop-at.last) c.loop-at.last c.loop-at.rest.now c.loop-at.invariant c.loop-at-test.true c.in_err-rises.ensures
    )

pub returns-then-not-rises : goal.returns-then-not-rises
returns-then-not-rises g c =
    let (cell, read, is) = c.in_ok-rises.ensures in
    sym (shared-taken c.args.settings.now (g.C.FrameItem.is_short c.args.settings.now) g.C.FrameItem.codec c.args.low.now c.args.count c.args.bytes.now (bytes-fit c.args.bytes.now c.type_inv.bytes))
    ∙ passed-falls c.args.settings.now (g.C.FrameItem.is_short c.args.settings.now) PrefixCompressed g.C.FrameItem.codec (take 510 c.args.low.now) c.args.count c.args.bytes.now
    c.loop-at.at (last_of c.loop-at.at c.loop-at.last) c.loop-at.last c.loop-at.rest.now c.loop-at.invariant
    c.skip_shared.new.last cell c.in_ok-rises.following.now c.loop-at-test.true read
    (last_of-falls c.loop-at.at c.loop-at.last c.skip_shared.new.last c.in_ok-rises.rises is c.if-at-gt0.true c.if-not-rises.true)

pub loop-at-preserved : goal.loop-at-preserved
loop-at-preserved g c =
    let (cell, read, is) = c.in_ok-rises.ensures in
    let goes : 0 < c.loop-at.at → c.in_ok-rises.rises ≡ true =
    elim c.else-at-gt0.branch [
      | else-at-gt0-via-then-at-gt0+else-not-rises w ↦ λ some. w.if-not-rises.false
      | else-at-gt0-via-else-at-gt0 w ↦ λ some. absurd (omega (arith, w.if-at-gt0.false))
    ] in
    passed-next c.args.settings.now (g.C.FrameItem.is_short c.args.settings.now) PrefixCompressed g.C.FrameItem.codec (take 510 c.args.low.now) c.args.count c.args.bytes.now
    c.loop-at.at (last_of c.loop-at.at c.loop-at.last) c.loop-at.last c.loop-at.rest.now c.loop-at.invariant
    c.skip_shared.new.last cell c.in_ok-rises.following.now c.loop-at-test.true read
    (last_of (c.loop-at.at + 1) c.skip_shared.new.last) (last_of-next c.loop-at.at c.skip_shared.new.last)
    (last_of-above c.loop-at.at c.loop-at.last c.skip_shared.new.last c.in_ok-rises.rises is goes)

pub returns : goal.returns
returns g c =
    let (es, read) = passed-done c.args.settings.now (g.C.FrameItem.is_short c.args.settings.now) PrefixCompressed g.C.FrameItem.codec (take 510 c.args.low.now) c.args.count c.args.bytes.now
    c.loop-at.at (last_of c.loop-at.at c.loop-at.last) c.loop-at.last c.loop-at.rest.now c.loop-at.invariant c.loop-at-test.false c.if-count-settings.false in
    (es, sym (shared-taken c.args.settings.now (g.C.FrameItem.is_short c.args.settings.now) g.C.FrameItem.codec c.args.low.now c.args.count c.args.bytes.now (bytes-fit c.args.bytes.now c.type_inv.bytes)) ∙ read)
