use Rattle.std.proofs.Common.{List, ℕ, Option, Bor, map, sym, subst}
use Rattle.std.specs.Map.{keys_of}
use Rattle.std.specs.Option.{option_copied}
use Rattle.keys.specs.Narrowed.{MayEndAtAll}
use Rattle.keys.proofs.NarrowedLemmas.{no_ends}
use Rattle.mapping.specs.Levels.{names, levels_of, contents}
use Rattle.mapping.specs.TreeInMemory.{tree_of}
use Rattle.engine.proofs.execute.change_by_points.Goals as goal

pub routes_with_ends-requires-clause-ends : goal.routes_with_ends-requires-clause-ends
routes_with_ends-requires-clause-ends g c κs within =
    let t = tree_of c.args.tree.now in
    let keys = keys_of (names (levels_of t).level) in
    subst (λ (ends : List (Option (Bor (List ℕ)))). MayEndAtAll keys (contents t) c.args.work.now.commands.now (map option_copied ends)) (sym c.new.ensures.items)
    (no_ends keys (contents t) c.args.work.now.commands.now)
