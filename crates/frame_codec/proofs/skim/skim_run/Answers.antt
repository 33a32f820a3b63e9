use Rattle.std.proofs.Common.{◌∙◌}
use Rattle.frame_codec.proofs.EachLemmas.{read-run}
use Rattle.frame_codec.proofs.skim.skim_run.Goals as goal

pub returns-in_err-_key_bytes : goal.returns-in_err-_key_bytes
returns-in_err-_key_bytes g c =
    let same = read-run c.args.settings.now (g.V.FrameItem.is_short c.args.settings.now) g.V.FrameItem.codec c.args.bytes.now c.in_ok-count.count c.in_ok-count.rest.now
    c.in_ok-count.ensures.number c.if-count-eq0.false in
    rw c.from_residual-in_err-_key_bytes.ensures (same ∙ c.in_err-_key_bytes.ensures)

pub returns : goal.returns
returns g c =
    let same = read-run c.args.settings.now (g.V.FrameItem.is_short c.args.settings.now) g.V.FrameItem.codec c.args.bytes.now c.in_ok-count.count c.in_ok-count.rest.now
    c.in_ok-count.ensures.number c.if-count-eq0.false in
    let (run, is) = c.in_ok-_key_bytes.ensures in
    (run, same ∙ is)
