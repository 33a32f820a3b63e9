use Rattle.std.specs.Prelude.{[]}
use Rattle.frame_codec.specs.declared.format.KeyEncoding.TheVariants.{Whole}
use Rattle.frame_codec.proofs.EachLemmas.{read-none, read-next, read-ends, read-done}
use Rattle.frame_codec.proofs.SkimLemmas.{whole-few, whole-rises}
use Rattle.frame_codec.proofs.read.read_whole.Goals as goal

pub loop-at-init : goal.loop-at-init
loop-at-init g c =
    rw c.in_ok-builder.ensures (read-none c.args.settings.now (g.V.FrameItem.is_short c.args.settings.now) Whole g.V.FrameItem.codec [] c.args.count c.args.bytes.now)

pub returns-in_default-2 : goal.returns-in_default-2
returns-in_default-2 g c =
    read-ends c.args.settings.now (g.V.FrameItem.is_short c.args.settings.now) Whole g.V.FrameItem.codec [] c.args.count c.args.bytes.now
    c.loop-at._at c.loop-at.builder c.loop-at.rest.now c.loop-at.invariant c.loop-at-test.true (rw c.in_default-2.is at c.in_ok-key.ensures)

pub push_next-requires : goal.push_next-requires
push_next-requires g c =
    let (es, whole) = c.in-Some.ensures in
    whole-rises c.args.settings.now (g.V.FrameItem.is_short c.args.settings.now) Whole g.V.FrameItem.codec [] c.args.count c.args.bytes.now es c.in-Some._end.now whole
    c.loop-at._at c.loop-at.builder c.loop-at.rest.now c.loop-at.invariant c.in-Some-2.key.now c.in-Some-2.cell c.in-Some-2.following.now
    c.loop-at-test.true (rw c.in-Some-2.is at c.in_ok-key.ensures)

pub loop-at-preserved : goal.loop-at-preserved
loop-at-preserved g c =
    rw c.in_ok-push_next.ensures.ok (read-next c.args.settings.now (g.V.FrameItem.is_short c.args.settings.now) Whole g.V.FrameItem.codec [] c.args.count c.args.bytes.now
    c.loop-at._at c.loop-at.builder c.loop-at.rest.now c.loop-at.invariant c.in-Some-2.key.now c.in-Some-2.cell c.in-Some-2.following.now
    c.loop-at-test.true (rw c.in-Some-2.is at c.in_ok-key.ensures))

pub returns : goal.returns
returns g c =
    let (es, whole) = c.in-Some.ensures in
    let few = whole-few c.args.settings.now (g.V.FrameItem.is_short c.args.settings.now) Whole g.V.FrameItem.codec [] c.args.count c.args.bytes.now es c.in-Some._end.now whole in
    rw c.finish-base.ensures (read-done c.args.settings.now (g.V.FrameItem.is_short c.args.settings.now) Whole g.V.FrameItem.codec [] c.args.count c.args.bytes.now
    c.loop-at._at c.loop-at.builder c.loop-at.rest.now c.loop-at.invariant c.loop-at-test.false few (rw c.finish-base.ensures at c.len-in_order.ensures.rising))
