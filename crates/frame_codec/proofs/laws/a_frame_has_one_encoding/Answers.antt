use Rattle.frame_codec.proofs.FrameLemmas.{same_frame}
use Rattle.frame_codec.proofs.laws.a_frame_has_one_encoding.Goals as goal

pub returns : goal.returns
returns c = same_frame
