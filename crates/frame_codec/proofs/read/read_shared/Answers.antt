use Rattle.std.proofs.Common.{◌∙◌, refl, sym, take}
use Rattle.frame_codec.specs.declared.format.KeyEncoding.TheVariants.{PrefixCompressed}
use Rattle.frame_codec.proofs.EachLemmas.{read-none, read-next, read-ends, read-done, last_key-push}
use Rattle.frame_codec.proofs.FoundLemmas.{bytes-fit}
use Rattle.frame_codec.proofs.SkimLemmas.{whole-few, whole-rises, shared-taken}
use Rattle.frame_codec.proofs.read.read_shared.Goals as goal

pub loop-at-init : goal.loop-at-init
loop-at-init g c = rw (c.in_ok-builder.ensures, c.of_low-last.ensures) (read-none c.args.settings.now (g.V.FrameItem.is_short c.args.settings.now) PrefixCompressed g.V.FrameItem.codec (take 510 c.args.low.now) c.args.count c.args.bytes.now, refl)

pub returns-in_default-2 : goal.returns-in_default-2
returns-in_default-2 g c =
    let (upto, last) = c.loop-at.invariant in
    sym (shared-taken c.args.settings.now (g.V.FrameItem.is_short c.args.settings.now) g.V.FrameItem.codec c.args.low.now c.args.count c.args.bytes.now (bytes-fit c.args.bytes.now c.type_inv.bytes))
    ∙ read-ends c.args.settings.now (g.V.FrameItem.is_short c.args.settings.now) PrefixCompressed g.V.FrameItem.codec (take 510 c.args.low.now) c.args.count c.args.bytes.now
    c.loop-at._at c.loop-at.builder c.loop-at.rest.now upto c.loop-at-test.true (rw last (rw c.in_default-2.is at c.in_ok-cell.ensures))

pub push_next-requires : goal.push_next-requires
push_next-requires g c =
    let (es, whole) = c.in-Some.ensures in
    let (upto, last) = c.loop-at.invariant in
    rw c.as_bytes.ensures (whole-rises c.args.settings.now (g.V.FrameItem.is_short c.args.settings.now) PrefixCompressed g.V.FrameItem.codec (take 510 c.args.low.now) c.args.count c.args.bytes.now es c.in-Some._end.now ((shared-taken c.args.settings.now (g.V.FrameItem.is_short c.args.settings.now) g.V.FrameItem.codec c.args.low.now c.args.count c.args.bytes.now (bytes-fit c.args.bytes.now c.type_inv.bytes)) ∙ whole)
    c.loop-at._at c.loop-at.builder c.loop-at.rest.now upto c.read_next_entry.new.last c.in-Some-2.cell c.in-Some-2.following.now
    c.loop-at-test.true (rw last (rw c.in-Some-2.is at c.in_ok-cell.ensures)))

pub loop-at-preserved : goal.loop-at-preserved
loop-at-preserved g c =
    let (upto, last) = c.loop-at.invariant in
    rw (c.in_ok-push_next.ensures.ok, c.as_bytes.ensures) (
      read-next c.args.settings.now (g.V.FrameItem.is_short c.args.settings.now) PrefixCompressed g.V.FrameItem.codec (take 510 c.args.low.now) c.args.count c.args.bytes.now
          c.loop-at._at c.loop-at.builder c.loop-at.rest.now upto c.read_next_entry.new.last c.in-Some-2.cell c.in-Some-2.following.now
          c.loop-at-test.true (rw last (rw c.in-Some-2.is at c.in_ok-cell.ensures)),
      last_key-push (take 510 c.args.low.now) c.loop-at.builder c.read_next_entry.new.last c.in-Some-2.cell,
    )

pub returns : goal.returns
returns g c =
    let (es, whole) = c.in-Some.ensures in
    let (upto, last) = c.loop-at.invariant in
    let few = whole-few c.args.settings.now (g.V.FrameItem.is_short c.args.settings.now) PrefixCompressed g.V.FrameItem.codec (take 510 c.args.low.now) c.args.count c.args.bytes.now es c.in-Some._end.now ((shared-taken c.args.settings.now (g.V.FrameItem.is_short c.args.settings.now) g.V.FrameItem.codec c.args.low.now c.args.count c.args.bytes.now (bytes-fit c.args.bytes.now c.type_inv.bytes)) ∙ whole) in
    rw c.finish-base.ensures (sym (shared-taken c.args.settings.now (g.V.FrameItem.is_short c.args.settings.now) g.V.FrameItem.codec c.args.low.now c.args.count c.args.bytes.now (bytes-fit c.args.bytes.now c.type_inv.bytes))
    ∙ read-done c.args.settings.now (g.V.FrameItem.is_short c.args.settings.now) PrefixCompressed g.V.FrameItem.codec (take 510 c.args.low.now) c.args.count c.args.bytes.now
    c.loop-at._at c.loop-at.builder c.loop-at.rest.now upto c.loop-at-test.false few (rw c.finish-base.ensures at c.len-in_order.ensures.rising))
