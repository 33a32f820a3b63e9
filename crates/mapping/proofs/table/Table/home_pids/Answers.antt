use Rattle.std.proofs.Common.{ap, ◌∙◌}
use Rattle.std.specs.Map.{keys_of}
use Rattle.mapping.specs.Slots.{home_pids}
use Rattle.mapping.specs.TreeInMemory.{home_pages}
use Rattle.mapping.proofs.HomePages.{pids-home}
use Rattle.mapping.proofs.table.Table.home_pids.Goals as goal

pub returns : goal.returns
returns g c = ap home_pids c.deref.ensures.value ∙ pids-home c.self.inside.slots.items ∙ ap (λ t. keys_of (home_pages t.places)) c.self.view_is
