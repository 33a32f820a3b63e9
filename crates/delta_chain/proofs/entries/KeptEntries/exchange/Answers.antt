use Rattle.std.proofs.Common.{refl}
use Rattle.std.proofs.lemmas.Option.{slice_get_read}
use Rattle.delta_chain.proofs.Exchanging.{set_item}
use Rattle.delta_chain.proofs.entries.KeptEntries.exchange.Goals as goal

pub returns-in-Many-clause-new : goal.returns-in-Many-clause-new
returns-in-Many-clause-new g c =
    let within = rw c.in-Many.is at c.requires in
    let there = slice_get_read c.in-Many.list.items _ c.args.at c.index_mut.result.now refl within c.index_mut.ensures.value in
    rw (c.in-Many.is, c.replace-in-Many.ensures.after) (set_item c.in-Many.list.items c.args.at c.index_mut.result.now c.args.item there)
