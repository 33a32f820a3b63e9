use Rattle.frame_codec.proofs.SizeLemmas.{frame-size}
use Rattle.frame_codec.proofs.laws.a_frame_has_its_size.Goals as goal

pub returns : goal.returns
returns c = frame-size
