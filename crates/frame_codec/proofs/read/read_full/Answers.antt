use Rattle.frame_codec.proofs.SkimLemmas.{full-none, full-passed}
use Rattle.frame_codec.proofs.read.read_full.Goals as goal

pub returns-in_default-2 : goal.returns-in_default-2
returns-in_default-2 g c =
    full-none c.args.settings.now (g.V.FrameItem.is_short c.args.settings.now) c.args.encoding g.V.FrameItem.codec c.args.bytes.now c.in-Some.low.now c.in-Some.rest.now
    c.in-Some-read_length.count c.in-Some-read_length.rest.now c.in-Some.ensures c.in-Some-read_length.ensures.number (rw c.in_default-2.is at c.in_ok-base.ensures)

pub returns : goal.returns
returns g c =
    rw c.in_ok-from_bytes.ensures (full-passed c.args.settings.now (g.V.FrameItem.is_short c.args.settings.now) c.args.encoding g.V.FrameItem.codec c.args.bytes.now c.in-Some.low.now c.in-Some.rest.now
    c.in-Some-read_length.count c.in-Some-read_length.rest.now c.in-Some.ensures c.in-Some-read_length.ensures.number c.in-Some-2.base c.in-Some-2.rest.now (rw c.in-Some-2.is at c.in_ok-base.ensures))
