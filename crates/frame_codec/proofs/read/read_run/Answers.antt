use Rattle.std.proofs.Common.{[]}
use Rattle.index_page.specs.Rules.{of_cell}
use Rattle.frame_codec.specs.declared.format.KeyEncoding.TheVariants.{Whole}
use Rattle.frame_codec.specs.Codecs.{flagged}
use Rattle.frame_codec.proofs.EachLemmas.{read-none, read-next-last, read-halts, read-done, read-many}
use Rattle.frame_codec.proofs.read.read_run.Goals as goal

pub returns-then-count-settings : goal.returns-then-count-settings
returns-then-count-settings g c =
    read-many c.args.settings.now (of_cell (g.V.FrameItem.is_short c.args.settings.now)) Whole (flagged g.V.FrameItem.codec) [] c.args.count c.args.bytes.now c.if-count-settings.true

pub loop-at-init : goal.loop-at-init
loop-at-init g c =
    rw c.in_ok-run.ensures (read-none c.args.settings.now (of_cell (g.V.FrameItem.is_short c.args.settings.now)) Whole (flagged g.V.FrameItem.codec) [] c.args.count c.args.bytes.now)

pub returns : goal.returns
returns g c =
    read-done c.args.settings.now (of_cell (g.V.FrameItem.is_short c.args.settings.now)) Whole (flagged g.V.FrameItem.codec) [] c.args.count c.args.bytes.now
    c.loop-at._at c.loop-at.run c.loop-at.rest.now c.loop-at.invariant c.loop-at-test.false c.if-count-settings.false c.len-in_order.ensures.rising

pub returns-in_default : goal.returns-in_default
returns-in_default g c =
    read-halts c.args.settings.now (of_cell (g.V.FrameItem.is_short c.args.settings.now)) Whole (flagged g.V.FrameItem.codec) [] c.args.count c.args.bytes.now
    c.loop-at._at c.loop-at.run c.loop-at.rest.now c.loop-at.invariant c.loop-at-test.true (rw c.in_default.is at c.in_ok-following.ensures)

pub loop-at-preserved : goal.loop-at-preserved
loop-at-preserved g c =
    let (e, read, pushed) = rw c.in-Some.is at c.in_ok-following.ensures in
    rw pushed (read-next-last c.args.settings.now (of_cell (g.V.FrameItem.is_short c.args.settings.now)) Whole (flagged g.V.FrameItem.codec) [] c.args.count c.args.bytes.now
    c.loop-at._at c.loop-at.run c.loop-at.rest.now c.loop-at.invariant e.0 e.1 c.in-Some.following.now c.loop-at-test.true read)
