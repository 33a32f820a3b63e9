use Rattle.std.proofs.Common.{ap, sym, ◌∙◌}
use Rattle.std.specs.Option.{option_copied}
use Rattle.keys.specs.Places.{is_some_that}
use Rattle.routing.specs.Idle.{empties}
use Rattle.routing.proofs.BatchLemmas.{past, empties_there}
use Rattle.routing.proofs.batch.BatchWithEnds.empties_at.Goals as goal

pub returns-in-Some : goal.returns-in-Some
returns-in-Some c =
    c.empties.ensures
    ∙ empties_there c.self.inside.commands.now _ c.args.self.now c.self.view_is (option_copied c.args.end) c.args.place c.in-Some.command.now c.in-Some.ensures.lookup.3.0 c.in-Some.ensures.lookup.1

pub returns-in-None : goal.returns-in-None
returns-in-None c = ap (λ found. is_some_that (empties (option_copied c.args.end)) found) (sym (past c.self.inside.commands.now _ c.args.self.now c.self.view_is c.args.place c.in-None.ensures.lookup.3))
