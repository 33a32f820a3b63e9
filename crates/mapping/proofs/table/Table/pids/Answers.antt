use Rattle.std.proofs.Common.{ap, ◌∙◌}
use Rattle.mapping.specs.Slots.{known_pids}
use Rattle.mapping.specs.Table.{pids_in_use_or_old}
use Rattle.mapping.proofs.FreshLemmas.{rising-in_use, rising-logged}
use Rattle.mapping.proofs.KnownPids.{known-table}
use Rattle.mapping.proofs.table.Table.pids.Goals as goal

pub returns-clause-pids : goal.returns-clause-pids
returns-clause-pids g c = ap known_pids c.deref.ensures.value ∙ known-table c.self.inside.slots.items c.self.invariant.rising ∙ ap pids_in_use_or_old c.self.view_is

pub returns-clause-rising : goal.returns-clause-rising
returns-clause-rising g c = rw (← c.self.view_is) (rising-in_use c.self.inside.slots.items c.self.invariant.rising)

pub returns-clause-logged : goal.returns-clause-logged
returns-clause-logged g c = rw (← c.self.view_is) (rising-logged c.self.inside.slots.items c.self.invariant.rising)
