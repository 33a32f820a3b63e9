use Rattle.mapping.proofs.tree.Tree.are_all_home.Goals as goal

pub returns : goal.returns
returns g c = rw (← c.self.view_is) (rw c.as_table.ensures at c.are_all_home.ensures)
