use Rattle.std.proofs.Common.{◌-◌}
use Rattle.mapping.specs.TreeInMemory.{tree_of}
use Rattle.verify.specs.Walked.{HasComeTo}
use Rattle.verify.proofs.walk.walk_to_leaves.Given as goal

-- the walk has come to the places of a level
abbrev pub invariant-loop-level : goal.invariant-loop-level
invariant-loop-level g l = HasComeTo l.settings (tree_of l.tree) (l.tree.height - l._level) l.least l.met l.places.items
