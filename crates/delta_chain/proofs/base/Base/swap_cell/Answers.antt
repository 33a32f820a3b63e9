use Rattle.std.proofs.Common.{arith}
use Rattle.delta_chain.specs.Packed.{packed_from, ends_of}
use Rattle.delta_chain.proofs.Exchanging.{packed-exchanged, IsPacked-exchanged, keys-exchanged_at}
use Rattle.delta_chain.proofs.Packing.{packed_within, cell_packed}
use Rattle.delta_chain.proofs.base.Base.swap_cell.Goals as goal

pub index_mut-requires : goal.index_mut-requires
index_mut-requires g c =
    let within = packed_within c.self.inside.bytes.items (ends_of c.self.inside.marks.items) c.self.inside.cells.items c.args.at c.self.invariant.0 (rw c.self.view_is c.requires) in
    omega (arith, within.1, c.self.inside.cells.ok)

pub invariant_of-self : goal.invariant_of-self
invariant_of-self g c =
    let ends = ends_of c.self.inside.marks.items in (
      IsPacked-exchanged c.self.inside.bytes.items ends c.self.inside.cells.items c.args.at c.swap.new.x c.self.invariant.0,
      rw (packed-exchanged 0 c.self.inside.bytes.items ends c.self.inside.cells.items c.args.at c.swap.new.x, keys-exchanged_at (packed_from 0 c.self.inside.bytes.items ends c.self.inside.cells.items) c.args.at c.swap.new.x) c.self.invariant.1,
    )

pub returns-clause-cell : goal.returns-clause-cell
returns-clause-cell g c =
    rw (← c.self.view_is, c.swap.ensures.y_after) (cell_packed 0 c.self.inside.bytes.items (ends_of c.self.inside.marks.items) c.self.inside.cells.items c.args.at c.index_mut.result.now (rw c.self.view_is c.requires) c.index_mut.ensures.value)

pub returns-clause-base : goal.returns-clause-base
returns-clause-base g c =
    rw (← c.self.view_is, c.swap.ensures.x_after) (packed-exchanged 0 c.self.inside.bytes.items (ends_of c.self.inside.marks.items) c.self.inside.cells.items c.args.at c.args.cell.now)
