use Rattle.std.proofs.Common.{arith}
use Rattle.mapping.proofs.Search.{rising_front, near_searched}
use Rattle.mapping.proofs.slots.slot_of.Goals as goal

pub search-requires-2 : goal.search-requires-2
search-requires-2 g c = rising_front (λ slot. slot.pid) c.args.pid c.args.slots.now c.requires

pub returns : goal.returns
returns g c =
    let slot = c.index-slots-near.result in
    near_searched (λ slot. slot.pid) c.args.slots.now c.args.pid slot c.search-2.result c.requires (omega arith)
    c.if-slots-near.false c.search-2.ensures
