use Rattle.std.proofs.Common.{List, map, subst}
use Rattle.std.specs.Option.{option_copied}
use Rattle.std.specs.declared.alloc.Global.{Global}
use Rattle.keys.specs.declared.command.Command.{Command}
use Rattle.mapping.specs.Levels.{levels_of}
use Rattle.mapping.specs.TreeInMemory.{tree_of}
use Rattle.routing.specs.Routes.{ranges}
use Rattle.routing.specs.Runs.{AreRunsOf}
use Rattle.engine.specs.Leaves.{AreRoutesFor}
use Rattle.engine.proofs.EndedRoutes.{weaker_ok}
use Rattle.engine.proofs.execute.routes_with_ends.Goals as goal

pub returns-clause-ok : goal.returns-clause-ok
returns-clause-ok g c =
    weaker_ok _ (λ runs. AreRoutesFor (tree_of c.args.tree.now) c.args.commands.now runs.items) c.route-2.result
    (λ runs h. (map option_copied c.args.ends.items, c.requires.ends, subst (λ (ds : List (Command Global)). AreRunsOf ds (ranges (levels_of (tree_of c.args.tree.now)).level) runs.items) c.new.ensures h)) c.route-2.ensures.ok
