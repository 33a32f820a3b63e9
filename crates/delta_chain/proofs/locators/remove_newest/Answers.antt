use Rattle.delta_chain.proofs.locators.remove_newest.Goals as goal

pub remove_from-requires-clause-newest : goal.remove_from-requires-clause-newest
remove_from-requires-clause-newest g c = rw c.in-Some.is at c.requires.list
