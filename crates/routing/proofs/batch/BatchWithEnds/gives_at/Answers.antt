use Rattle.std.proofs.Common.{ap, sym, ◌∙◌}
use Rattle.keys.specs.Places.{is_some_that}
use Rattle.routing.specs.Idle.{gives}
use Rattle.routing.proofs.BatchLemmas.{past, gives_there}
use Rattle.routing.proofs.batch.BatchWithEnds.gives_at.Goals as goal

pub returns-in-Some : goal.returns-in-Some
returns-in-Some c =
    c.gives.ensures
    ∙ gives_there c.self.inside.commands.now _ c.args.self.now c.self.view_is c.args.place c.in-Some.command.now c.in-Some.ensures.lookup.3.0 c.in-Some.ensures.lookup.1

pub returns-in-None : goal.returns-in-None
returns-in-None c = ap (λ found. is_some_that gives found) (sym (past c.self.inside.commands.now _ c.args.self.now c.self.view_is c.args.place c.in-None.ensures.lookup.3))
