use Rattle.mapping.proofs.DueTable.{noted-push, kept-push}
use Rattle.mapping.proofs.due.Due.note.Goals as goal

pub returns-then-len-capacity-clause-noted : goal.returns-then-len-capacity-clause-noted
returns-then-len-capacity-clause-noted g c = rw c.push_reserved.ensures.items (noted-push c.self.inside.are_all c.self.inside.pids.items c.args.pid)

pub returns-then-len-capacity-clause-kept : goal.returns-then-len-capacity-clause-kept
returns-then-len-capacity-clause-kept g c = rw (← c.self.view_is, c.push_reserved.ensures.items) (λ q h. kept-push c.self.inside.are_all c.self.inside.pids.items c.args.pid q h)
