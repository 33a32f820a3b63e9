use Rattle.std.proofs.Common.{arith}
use Rattle.delta_chain.proofs.entries.KeptEntries.insert.Goals as goal

pub push_reserved-requires : goal.push_reserved-requires
push_reserved-requires g c = omega (arith, c.if-at-len.true, c.len.ensures, c.capacity.ensures, c.if-at-capacity.true)
