use Rattle.page_search.proofs.PlaceLemmas.{below_iff_before_count}
use Rattle.page_search.proofs.laws.keys_below_stand_first.Goals as goal

pub returns : goal.returns
returns c = below_iff_before_count
