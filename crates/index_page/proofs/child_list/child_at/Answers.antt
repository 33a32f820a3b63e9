use Rattle.page_search.proofs.PlaceLemmas.{pair_at}
use Rattle.index_page.proofs.child_list.child_at.Goals as goal

pub returns : goal.returns
returns g c = pair_at c.args.list.now c.args.at _ _ c.key.ensures c.cell.ensures
