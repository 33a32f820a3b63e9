use Rattle.mapping.proofs.DueTable.{noted-outdated}
use Rattle.mapping.proofs.page_table.PageTable.outdate.Goals as goal

pub invariant_of-self : goal.invariant_of-self
invariant_of-self g c = rw c.outdate.ensures (noted-outdated c.self.inside.table c.self.inside.due c.note.new.self c.self.invariant c.note.ensures.kept c.args.pid c.note.ensures.noted)
