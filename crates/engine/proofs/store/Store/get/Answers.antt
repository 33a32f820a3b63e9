use Rattle.engine.proofs.store.Store.get.Goals as goal

pub value_of-requires : goal.value_of-requires
value_of-requires g c = (let proper = c.self.invariant.sound.is.proper in record { readable = record { home = c.self.invariant.home; held = proper.held; levels = proper.levels } })
