use Rattle.frame_codec.proofs.SkimLemmas.{full-none, full-passed}
use Rattle.frame_codec.proofs.skim.skim_full.Goals as goal

pub returns-in_err-_key_bytes : goal.returns-in_err-_key_bytes
returns-in_err-_key_bytes g c =
    rw c.from_residual-in_err-_key_bytes.ensures (full-none c.args.settings.now (g.V.FrameItem.is_short c.args.settings.now) c.args.encoding g.V.FrameItem.codec c.args.bytes.now c.in_ok-low.low.now c.in_ok-low.rest.now
    c.in_ok-count.count c.in_ok-count.rest.now c.in_ok-low.ensures c.in_ok-count.ensures.number c.in_err-_key_bytes.ensures)

pub returns : goal.returns
returns g c =
    let (es, is) = c.in_ok-_key_bytes.ensures in (
      (c.in_ok-low.low.now, es),
      full-passed c.args.settings.now (g.V.FrameItem.is_short c.args.settings.now) c.args.encoding g.V.FrameItem.codec c.args.bytes.now c.in_ok-low.low.now c.in_ok-low.rest.now
          c.in_ok-count.count c.in_ok-count.rest.now c.in_ok-low.ensures c.in_ok-count.ensures.number es c.in_ok-_key_bytes.rest.now is,
    )
