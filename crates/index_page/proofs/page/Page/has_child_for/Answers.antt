use Rattle.index_page.specs.Children.{child_entries}
use Rattle.index_page.proofs.ChildLemmas.{has_child_by}
use Rattle.index_page.proofs.page.Page.has_child_for.Goals as goal

pub returns : goal.returns
returns g c = rw c.is_some.ensures (has_child_by c.args.key.now _ c.last_child.result (child_entries c.args.self.now) c.last_child.ensures.rising c.last_child.ensures.child)
