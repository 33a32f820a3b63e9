use Rattle.std.proofs.Common.{[], refl, sym, ◌∙◌}
use Rattle.std.specs.Option.{option_copied}
use Rattle.frame_codec.specs.declared.format.KeyEncoding.TheVariants.{Whole}
use Rattle.frame_codec.proofs.EachLemmas.{read-many}
use Rattle.frame_codec.proofs.SkimLemmas.{passed-none, passed-ends, passed-next, passed-falls, passed-done}
use Rattle.frame_codec.proofs.skim.skim_entries.Goals as goal

pub returns-then-count-settings : goal.returns-then-count-settings
returns-then-count-settings g c = read-many c.args.settings.now (g.C.FrameItem.is_short c.args.settings.now) Whole g.C.FrameItem.codec [] c.args.count c.args.bytes.now c.if-count-settings.true

pub loop-at-init : goal.loop-at-init
loop-at-init g c = ([], passed-none c.args.settings.now (g.C.FrameItem.is_short c.args.settings.now) Whole g.C.FrameItem.codec [] c.args.count c.args.bytes.now)

pub returns-in_err-key : goal.returns-in_err-key
returns-in_err-key g c =
    let (key, up) = c.loop-at.invariant in
    rw c.from_residual.ensures (passed-ends c.args.settings.now (g.C.FrameItem.is_short c.args.settings.now) Whole g.C.FrameItem.codec [] c.args.count c.args.bytes.now
    c.loop-at._at (option_copied c.loop-at.last) key c.loop-at.rest.now up c.loop-at-test.true c.in_err-key.ensures)

pub returns-then-not-is_above : goal.returns-then-not-is_above
returns-then-not-is_above g c =
    let (key, up) = c.loop-at.invariant in
    let (cell, is) = c.in_ok-key.ensures in
    passed-falls c.args.settings.now (g.C.FrameItem.is_short c.args.settings.now) Whole g.C.FrameItem.codec [] c.args.count c.args.bytes.now
    c.loop-at._at (option_copied c.loop-at.last) key c.loop-at.rest.now up c.in_ok-key.key.now cell c.in_ok-key.following.now
    c.loop-at-test.true is (sym c.is_above.ensures ∙ c.if-not-is_above.true)

pub loop-at-preserved : goal.loop-at-preserved
loop-at-preserved g c =
    let (key, up) = c.loop-at.invariant in
    let (cell, is) = c.in_ok-key.ensures in (
      c.in_ok-key.key.now,
      passed-next c.args.settings.now (g.C.FrameItem.is_short c.args.settings.now) Whole g.C.FrameItem.codec [] c.args.count c.args.bytes.now
          c.loop-at._at (option_copied c.loop-at.last) key c.loop-at.rest.now up c.in_ok-key.key.now cell c.in_ok-key.following.now
          c.loop-at-test.true is _ refl (sym c.is_above.ensures ∙ c.if-not-is_above.false),
    )

pub returns : goal.returns
returns g c =
    let (key, up) = c.loop-at.invariant in
    passed-done c.args.settings.now (g.C.FrameItem.is_short c.args.settings.now) Whole g.C.FrameItem.codec [] c.args.count c.args.bytes.now
    c.loop-at._at (option_copied c.loop-at.last) key c.loop-at.rest.now up c.loop-at-test.false c.if-count-settings.false
