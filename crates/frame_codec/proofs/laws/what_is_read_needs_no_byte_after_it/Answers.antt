use Rattle.frame_codec.proofs.LongerLemmas.{frame-longer}
use Rattle.frame_codec.proofs.laws.what_is_read_needs_no_byte_after_it.Goals as goal

pub returns : goal.returns
returns c = frame-longer
