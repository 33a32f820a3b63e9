use Rattle.delta_chain.proofs.chain.Chain.change_count.Goals as goal

pub returns : goal.returns
returns g c = rw (← c.self.view_is) (rw c.deref.ensures.value at c.named_by.ensures)
