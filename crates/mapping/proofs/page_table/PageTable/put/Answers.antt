use Rattle.std.proofs.Common.{Some}
use Rattle.mapping.proofs.DueTable.{noted-with_place, noted-put}
use Rattle.mapping.proofs.page_table.PageTable.put.Goals as goal
use Rattle.mapping.proofs.page_table.PageTable.put.Goals.{in-No, in_default}

pub invariant_of-self : goal.invariant_of-self
invariant_of-self g c =
    let table = c.self.inside.table in
    let due = c.self.inside.due in
    elim c.match-logged.branch [
      | in-No w ↦
          rw (c.put.ensures, w.self-inside-is)
          (noted-with_place table due w.note.new.self c.self.invariant w.note.ensures.kept c.args.pid (Some c.args.page) w.note.ensures.noted)
      | in_default w ↦
          rw (c.put.ensures, w.self-inside-is)
          (noted-put table due c.args.pid (Some c.args.page) c.logged.result c.self.invariant (rw (← c.self.view_is) at c.requires) c.logged.ensures w.in_default.not-No)
    ]
