use Rattle.delta_chain.proofs.locators.locate.Goals as goal

pub listed-requires : goal.listed-requires
listed-requires g c = rw c.deref.ensures.value (rw c.in-Some.is at c.requires.list)
