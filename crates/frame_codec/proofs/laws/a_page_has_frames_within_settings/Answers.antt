use Rattle.frame_codec.proofs.WithinLemmas.{leaf_within, index_within}
use Rattle.frame_codec.proofs.laws.a_page_has_frames_within_settings.Goals as goal

pub returns : goal.returns
returns c = record { leaf = leaf_within; index_page = index_within }
