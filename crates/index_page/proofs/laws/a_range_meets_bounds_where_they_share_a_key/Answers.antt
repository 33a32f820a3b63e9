use Rattle.index_page.proofs.WithinLemmas.{meets_iff_shares, meets_alone}
use Rattle.index_page.proofs.laws.a_range_meets_bounds_where_they_share_a_key.Goals as goal

pub returns : goal.returns
returns c = record { shared = meets_iff_shares; empty = meets_alone }
