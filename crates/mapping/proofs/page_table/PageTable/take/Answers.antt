use Rattle.std.proofs.Common.{None}
use Rattle.mapping.proofs.DueTable.{noted-with_place}
use Rattle.mapping.proofs.page_table.PageTable.take.Goals as goal

pub invariant_of-self : goal.invariant_of-self
invariant_of-self g c = rw c.take.ensures.table (noted-with_place c.self.inside.table c.self.inside.due c.note.new.self c.self.invariant c.note.ensures.kept c.args.pid None c.note.ensures.noted)
