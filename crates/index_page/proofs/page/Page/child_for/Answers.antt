use Rattle.index_page.specs.Children.{child_entries}
use Rattle.index_page.proofs.ChildLemmas.{has_floor}
use Rattle.index_page.proofs.WithinLemmas.{child_of_floor}
use Rattle.index_page.proofs.page.Page.child_for.Goals as goal

pub returns : goal.returns
returns g c = child_of_floor c.args.key.now (child_entries c.args.self.now) _ c.last_child.ensures.rising c.requires c.in-Some.ensures.child

pub unreachable-requires : goal.unreachable-requires
unreachable-requires g c = has_floor c.args.key.now (child_entries c.args.self.now) c.requires c.in-None.ensures.child
