use Rattle.mapping.proofs.RoomLemmas.{slots_by, table_kept}
use Rattle.mapping.proofs.table.Table.room.Goals as goal

pub invariant_of-self : goal.invariant_of-self
invariant_of-self g c =
    let made = c.occupy.ensures in
    slots_by c.self.inside.slots.items c.occupy.new.slots.items c.occupy.result c.self.inside.filled c.args.pid c.self.invariant made.rising made.ok made.err

pub returns-clause-ok : goal.returns-clause-ok
returns-clause-ok g c = rw (← c.self.view_is) c.occupy.ensures.ok

pub returns-clause-err : goal.returns-clause-err
returns-clause-err g c = table_kept c.self.inside.slots.items c.occupy.new.slots.items c.occupy.result c.args.self.now c.self.view_is c.occupy.ensures.err
