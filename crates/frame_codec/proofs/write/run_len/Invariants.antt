use Rattle.std.proofs.Common.{◌≡◌, ◌+◌, [], length}
use Rattle.frame_codec.specs.Codecs.{flagged}
use Rattle.frame_codec.specs.declared.format.KeyEncoding.TheVariants.{Whole}
use Rattle.frame_codec.proofs.WriteLemmas.{encoded_from}
use Rattle.frame_codec.proofs.write.run_len.Given as goal

-- the size of the changes from this place on is added
abbrev pub invariant-loop-at : goal.invariant-loop-at
invariant-loop-at g l =
    l.len + length (encoded_from Whole (flagged g.V.FrameItem.codec) [] l.run [] l.at) ≡ length (encoded_from Whole (flagged g.V.FrameItem.codec) [] l.run [] 0)
