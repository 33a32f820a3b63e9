use Rattle.index_page.proofs.ChildLemmas.{leaf-rising}
use Rattle.index_page.proofs.page.Page.last_child.Goals as goal

pub returns-in_err-list-clause-rising : goal.returns-in_err-list-clause-rising
returns-in_err-list-clause-rising g c = leaf-rising c.args.self.now c.in_err-list.ensures
