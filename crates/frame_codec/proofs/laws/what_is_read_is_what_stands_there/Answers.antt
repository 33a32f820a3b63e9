use Rattle.frame_codec.proofs.ReadLemmas.{frame-stands, none-stands}
use Rattle.frame_codec.proofs.laws.what_is_read_is_what_stands_there.Goals as goal

pub returns : goal.returns
returns c = record { found = frame-stands; none = none-stands }
