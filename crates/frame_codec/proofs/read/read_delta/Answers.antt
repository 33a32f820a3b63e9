use Rattle.frame_codec.proofs.EachLemmas.{read-run}
use Rattle.frame_codec.proofs.read.read_delta.Goals as goal

pub returns : goal.returns
returns g c =
    let same = read-run c.args.settings.now (g.V.FrameItem.is_short c.args.settings.now) g.V.FrameItem.codec c.args.bytes.now c.in-Some.count c.in-Some.rest.now
    (rw c.in-Some.is at c.read_length.ensures.number) c.if-count-eq0.false in
    rw same c.read_run.ensures
