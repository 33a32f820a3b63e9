use Rattle.flush_log.proofs.StandsLemmas.{text-stands}
use Rattle.flush_log.proofs.laws.each_frame_stands_at_its_place.Goals as goal

pub returns : goal.returns
returns c g file head tail text good = text-stands g good file head tail text
