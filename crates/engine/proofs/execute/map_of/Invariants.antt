use Rattle.std.proofs.Common.{◌≡◌, ◌++◌}
use Rattle.mapping.specs.Levels.{contents}
use Rattle.mapping.specs.TreeInMemory.{tree_of}
use Rattle.engine.proofs.execute.map_of.Given as goal

-- the pairs so far and the pairs that are left are all pairs of the tree
abbrev pub invariant-loop-key : goal.invariant-loop-key
invariant-loop-key l = l.map ++ l.key-iterator ≡ contents (tree_of l.fn.tree)
