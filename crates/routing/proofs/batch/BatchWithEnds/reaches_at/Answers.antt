use Rattle.std.proofs.Common.{drop, map, ap, sym, ◌∙◌}
use Rattle.std.specs.Option.{option_copied}
use Rattle.keys.specs.Narrowed.{first_end}
use Rattle.keys.specs.Places.{is_some_that}
use Rattle.routing.specs.SortedPlaces.{reaches}
use Rattle.routing.proofs.BatchLemmas.{past, reaches_there}
use Rattle.routing.proofs.batch.BatchWithEnds.reaches_at.Goals as goal

pub returns-in-Some : goal.returns-in-Some
returns-in-Some c =
    let end = c.end_at.ensures ∙ ap (λ ends. first_end (drop c.args.place (map option_copied ends))) c.deref.ensures.value in
    c.reaches.ensures
    ∙ reaches_there c.self.inside.commands.now _ c.args.self.now c.self.view_is c.args.low.now (option_copied c.end_at.result) c.args.place c.in-Some.command.now end c.in-Some.ensures.lookup.3.0 c.in-Some.ensures.lookup.1

pub returns-in-None : goal.returns-in-None
returns-in-None c = ap (λ found. is_some_that (reaches c.args.low.now) found) (sym (past c.self.inside.commands.now _ c.args.self.now c.self.view_is c.args.place c.in-None.ensures.lookup.3))
