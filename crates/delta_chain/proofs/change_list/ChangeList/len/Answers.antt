use Rattle.std.proofs.Common.{sym}
use Rattle.delta_chain.proofs.LocatorLemmas.{length-changes_of}
use Rattle.delta_chain.proofs.change_list.ChangeList.len.Goals as goal

pub returns-clause-count : goal.returns-clause-count
returns-clause-count g c = rw (← c.self.view_is) (sym (length-changes_of c.self.inside.runs.now c.self.inside.locators.now))

pub returns-clause-rising : goal.returns-clause-rising
returns-clause-rising g c = rw (← c.self.view_is) c.self.invariant.1
