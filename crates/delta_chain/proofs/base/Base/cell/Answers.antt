use Rattle.std.proofs.Common.{arith}
use Rattle.delta_chain.specs.Packed.{ends_of}
use Rattle.delta_chain.proofs.Packing.{packed_within, cell_packed}
use Rattle.delta_chain.proofs.base.Base.cell.Goals as goal

pub index-requires : goal.index-requires
index-requires g c =
    let within = packed_within c.self.inside.bytes.items (ends_of c.self.inside.marks.items) c.self.inside.cells.items c.args.at c.self.invariant.0 (rw c.self.view_is c.requires) in
    omega (arith, within.1, c.self.inside.cells.ok)

pub returns : goal.returns
returns g c =
    rw (← c.self.view_is) (cell_packed 0 c.self.inside.bytes.items (ends_of c.self.inside.marks.items) c.self.inside.cells.items c.args.at c.index.result.now (rw c.self.view_is c.requires) c.index.ensures)
