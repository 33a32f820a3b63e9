use Rattle.mapping.proofs.DueTable.{noted-freed}
use Rattle.mapping.proofs.page_table.PageTable.free.Goals as goal

pub invariant_of-self : goal.invariant_of-self
invariant_of-self g c = rw c.free.ensures (noted-freed c.self.inside.table c.self.inside.due c.args.pid c.pids-rising.ensures.rising c.self.invariant (rw (← c.self.view_is) at c.requires))
