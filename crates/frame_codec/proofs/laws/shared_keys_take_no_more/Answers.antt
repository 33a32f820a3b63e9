use Rattle.frame_codec.proofs.SizeLemmas.{leaf-shorter, index-shorter}
use Rattle.frame_codec.proofs.laws.shared_keys_take_no_more.Goals as goal

pub returns : goal.returns
returns c = record { leaf = leaf-shorter; index_page = index-shorter }
