use Rattle.std.proofs.Common.{arith}
use Rattle.delta_chain.proofs.Alone.{written_alone}
use Rattle.delta_chain.proofs.entries.KeptEntries.write.Goals as goal

pub returns-in-One : goal.returns-in-One
returns-in-One g c =
    let within = rw c.in-One.is at c.requires in
    rw c.in-One.is (written_alone c.in-One.held c.args.entry c.args.at within)

pub index_mut-requires : goal.index_mut-requires
index_mut-requires g c =
    let within = rw c.in-Many.is at c.requires in
    omega (arith, within, c.in-Many.list.ok)
