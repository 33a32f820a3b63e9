use Rattle.std.proofs.Common.{sym}
use Rattle.scan.proofs.TakenLemmas.{taken_by_del_lent}
use Rattle.scan.proofs.taken.Deletions.note.Goals as goal

pub returns-in-Del-clause-taken : goal.returns-in-Del-clause-taken
returns-in-Del-clause-taken c = λ gone is ready small few.
    taken_by_del_lent gone c.args.self.now c.self.inside.deleted c.self.inside.wiped_from c.self.inside.wiped_to c.note.new.self c.args.command.now c.in-Del.key c.as_bytes.result.now
    (sym c.self.view_is) c.in-Del.is c.as_bytes.ensures c.note.ensures.came is ready small
