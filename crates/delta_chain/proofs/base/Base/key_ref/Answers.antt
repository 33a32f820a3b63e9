use Rattle.std.proofs.Common.{arith}
use Rattle.std.specs.Map.{keys_of}
use Rattle.delta_chain.specs.Packed.{packed_from, ends_of}
use Rattle.delta_chain.proofs.Packing.{packed_within, length-ends_of, marked_there}
use Rattle.delta_chain.proofs.base.Base.key_ref.Goals as goal

pub index-requires : goal.index-requires
index-requires g c =
    let within = packed_within c.self.inside.bytes.items (ends_of c.self.inside.marks.items) c.self.inside.cells.items c.args.at c.self.invariant.0 (rw c.self.view_is c.requires) in
    omega (arith, within.0, length-ends_of c.self.inside.marks.items, c.self.inside.marks.ok)

pub of_word-requires : goal.of_word-requires
of_word-requires g c =
    marked_there (keys_of (packed_from 0 c.self.inside.bytes.items (ends_of c.self.inside.marks.items) c.self.inside.cells.items)) c.self.inside.marks.items c.args.at c.key.result.now c.index.result.now c.self.invariant.1 (rw c.self.view_is c.key.ensures) c.index.ensures
