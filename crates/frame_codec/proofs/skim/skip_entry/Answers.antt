use Rattle.keys.specs.Cells.{counted}
use Rattle.frame_codec.specs.Frame.{is_key}
use Rattle.frame_codec.proofs.EachLemmas.{both-passed}
use Rattle.frame_codec.proofs.skim.skip_entry.Goals as goal

pub returns : goal.returns
returns g c =
    let (cell, is) = c.in_ok-rest.ensures in (
      cell,
      both-passed (is_key c.args.settings.now) (g.C.FrameItem.is_short c.args.settings.now) counted g.C.FrameItem.codec c.args.bytes.now
          c.in_ok-key.key.now c.in_ok-key.rest.now cell c.in_ok-rest.rest.now c.in_ok-key.ensures is,
    )
