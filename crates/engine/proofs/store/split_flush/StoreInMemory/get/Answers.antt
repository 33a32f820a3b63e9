use Rattle.engine.proofs.store.split_flush.StoreInMemory.get.Goals as goal

pub value_of-requires : goal.value_of-requires
value_of-requires c = (let proper = c.self.invariant.is.proper in record { readable = record { home = c.self.invariant.home; held = proper.held; levels = proper.levels } })
