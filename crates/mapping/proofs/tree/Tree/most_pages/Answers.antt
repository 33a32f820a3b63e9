use Rattle.std.proofs.Common.{arith}
use Rattle.mapping.proofs.Counted.{most_entries}
use Rattle.mapping.proofs.tree.Tree.most_pages.Goals as goal

pub returns : goal.returns
returns g c =
    let most = most_entries (λ e. e.0) (λ e. e.1) c.self.inside.table.places in
    let places = rw c.as_table.ensures at c.most_places.ensures in
    rw (← c.self.view_is) (omega (arith, most, places))
