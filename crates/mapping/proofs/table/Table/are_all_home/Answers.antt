use Rattle.mapping.proofs.table.Table.are_all_home.Goals as goal

pub returns : goal.returns
returns g c = rw (← c.self.view_is) (rw c.deref.ensures.value at c.are_all_home.ensures)
