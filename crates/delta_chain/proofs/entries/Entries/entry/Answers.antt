use Rattle.std.proofs.Common.{arith, refl}
use Rattle.std.proofs.lemmas.Option.{slice_get_read}
use Rattle.delta_chain.proofs.Places.{alone_at}
use Rattle.delta_chain.proofs.entries.Entries.entry.Goals as goal

pub returns-in-One : goal.returns-in-One
returns-in-One g c =
    let within = rw (← c.self.view_is, c.in-One.is) at c.requires in
    rw (← c.self.view_is, c.in-One.is) (alone_at c.in-One.entry c.args.at within)

pub index-requires : goal.index-requires
index-requires g c =
    let within = rw (← c.self.view_is, c.in-Many.is) at c.requires in
    omega (arith, within, c.in-Many.list.ok)

pub returns-in-Many : goal.returns-in-Many
returns-in-Many g c =
    let within = rw (← c.self.view_is, c.in-Many.is) at c.requires in
    rw (← c.self.view_is, c.in-Many.is) (slice_get_read c.in-Many.list.items _ c.args.at c.index.result.now refl within c.index.ensures)
