use Rattle.std.proofs.Common.{arith}
use Rattle.mapping.specs.Slots.{listed_place}
use Rattle.mapping.proofs.Counted.{most_entries}
use Rattle.mapping.proofs.table.Table.most_places.Goals as goal

pub returns : goal.returns
returns g c =
    let most = most_entries (λ s. s.pid) (λ s. listed_place s.page) c.self.inside.slots.items in
    let slots = c.len.ensures in
    rw (← c.self.view_is) (omega (arith, most, slots))
