use Rattle.flush_log.proofs.FitLemmas.{frame_fits}
use Rattle.flush_log.proofs.laws.a_frame_fits_into_a_segment.Goals as goal

pub returns : goal.returns
returns c = frame_fits
