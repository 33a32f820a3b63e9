use Rattle.std.proofs.Common.{ap, ◌∙◌}
use Rattle.mapping.specs.Flushed.{marked_as_written}
use Rattle.mapping.specs.Slots.{table_of}
use Rattle.mapping.proofs.DueSlots.{marked-all}
use Rattle.mapping.proofs.table.Table+Page+A+A.flushed_at.Goals as goal

pub invariant_of-self : goal.invariant_of-self
invariant_of-self g c =
    let due = rw (← c.self.view_is) at c.requires in
    rw c.mark_all.ensures (marked-all c.self.inside.slots.items c.self.inside.filled c.args.pids.now c.self.invariant due).0

pub returns : goal.returns
returns g c =
    let due = rw (← c.self.view_is) at c.requires in
    ap table_of c.mark_all.ensures
    ∙ (marked-all c.self.inside.slots.items c.self.inside.filled c.args.pids.now c.self.invariant due).1
    ∙ ap marked_as_written c.self.view_is
