use Rattle.frame_codec.proofs.FrameLemmas.{in_limits, frame-back}
use Rattle.frame_codec.proofs.laws.a_frame_is_read_back.Goals as goal

pub returns : goal.returns
returns c g f rest good within = frame-back g (in_limits g.settings good) f within rest
