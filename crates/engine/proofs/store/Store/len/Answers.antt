use Rattle.engine.proofs.store.Store.len.Goals as goal

pub returns : goal.returns
returns g c = rw (← c.self.view_is) c.self.invariant.counted
