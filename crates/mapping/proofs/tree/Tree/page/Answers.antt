use Rattle.std.proofs.Common.{◌∙◌}
use Rattle.mapping.proofs.HomePages.{page-home}
use Rattle.mapping.proofs.tree.Tree.page.Goals as goal

pub returns-clause-listed : goal.returns-clause-listed
returns-clause-listed g c =
    let got = rw c.as_table.ensures at c.get.ensures in
    rw (← c.self.view_is, ← c.pid.view_is) (λ home. got ∙ page-home c.self.inside.table.places c.pid.inside.0 home)
