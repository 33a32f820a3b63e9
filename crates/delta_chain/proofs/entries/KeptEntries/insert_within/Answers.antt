use Rattle.std.proofs.Common.{arith}
use Rattle.delta_chain.proofs.Alone.{put_first}
use Rattle.delta_chain.proofs.entries.KeptEntries.insert_within.Goals as goal

pub insert-inserted-requires : goal.insert-inserted-requires
insert-inserted-requires g c =
    let within = rw (← c.in-Many.ensures.value) at c.requires in
    omega (arith, within, c.in-Many.list.ok)

pub returns-then-capacity-eq0-clause-ok : goal.returns-then-capacity-eq0-clause-ok
returns-then-capacity-eq0-clause-ok g c =
    let within = rw (← c.in-Many.ensures.value) at c.requires in
    rw (← c.in-Many.ensures.value) (put_first c.in-Many.list.items c.args.at c.args.entry (omega (arith, c.capacity.ensures, c.if-capacity-eq0.true, c.in-Many.list.ok)) within)

pub returns-in-Ok-clause-ok : goal.returns-in-Ok-clause-ok
returns-in-Ok-clause-ok g c = rw (← c.in-One.ensures.value) c.with_two.ensures

pub returns-in_ok-inserted-in-Many-clause-ok : goal.returns-in_ok-inserted-in-Many-clause-ok
returns-in_ok-inserted-in-Many-clause-ok g c = rw (← c.in-Many.ensures.value) c.in_ok-inserted-in-Many.ensures.items
