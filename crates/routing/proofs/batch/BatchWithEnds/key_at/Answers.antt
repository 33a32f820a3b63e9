use Rattle.std.proofs.Common.{ap, sym, ◌∙◌}
use Rattle.routing.specs.BatchKeys.{key_or_empty}
use Rattle.routing.proofs.BatchLemmas.{past, key_there}
use Rattle.routing.proofs.batch.BatchWithEnds.key_at.Goals as goal

pub returns-in-Some : goal.returns-in-Some
returns-in-Some c =
    c.as_bytes.ensures ∙ c.key.ensures
    ∙ key_there c.self.inside.commands.now _ c.args.self.now c.self.view_is c.args.place c.in-Some.command.now c.in-Some.ensures.lookup.3.0 c.in-Some.ensures.lookup.1

pub returns-in-None : goal.returns-in-None
returns-in-None c = ap (λ found. key_or_empty found) (sym (past c.self.inside.commands.now _ c.args.self.now c.self.view_is c.args.place c.in-None.ensures.lookup.3))
