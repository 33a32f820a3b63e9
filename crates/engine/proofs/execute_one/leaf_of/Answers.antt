use Rattle.std.proofs.Common.{◌≡◌, ◌∙◌, ◌∷◌, [], List, ℕ, subst}
use Rattle.keys.specs.CommandKey.{key_of}
use Rattle.mapping.specs.Descent.{pids_for}
use Rattle.mapping.specs.Levels.{names, levels_of}
use Rattle.mapping.specs.TreeInMemory.{tree_of}
use Rattle.engine.proofs.OneKey.{only_route}
use Rattle.engine.proofs.execute_one.leaf_of.Goals as goal

pub returns : goal.returns
returns c =
    let key : c.as_bytes.result.now ≡ key_of c.args.command.now = c.as_bytes.ensures ∙ c.key.ensures in
    only_route c.args.command.now c.requires.point (tree_of c.args.tree.now) c.leaf_for.result
    (subst (λ (k : List ℕ). pids_for k (names (levels_of (tree_of c.args.tree.now)).level) ≡ c.leaf_for.result ∷ []) key c.leaf_for.ensures.only)
