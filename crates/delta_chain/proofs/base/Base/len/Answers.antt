use Rattle.std.proofs.Common.{rules}
use Rattle.delta_chain.specs.Packed.{ends_of}
use Rattle.delta_chain.proofs.Packing.{length-packed}
use Rattle.delta_chain.proofs.base.Base.len.Goals as goal

pub returns-clause-count : goal.returns-clause-count
returns-clause-count g c =
    rw (← c.self.view_is, length-packed 0 c.self.inside.bytes.items (ends_of c.self.inside.marks.items) c.self.inside.cells.items c.self.invariant.0.count) (search rules)
