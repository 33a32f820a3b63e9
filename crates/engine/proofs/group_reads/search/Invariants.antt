use Rattle.std.proofs.Common.{◌≡◌, ℕ, map, take}
use Rattle.keys.specs.Lists.{flat}
use Rattle.replies.specs.ByPlace.{pieces_at}
use Rattle.engine.specs.GroupReads.{group_leaf_answers, piece_of}
use Rattle.engine.proofs.group_reads.search.Given as goal

abbrev pub invariant-loop-leaf : goal.invariant-loop-leaf
invariant-loop-leaf l = (place : ℕ) → pieces_at (map piece_of l.found.items) place ≡ pieces_at (flat (map (group_leaf_answers l.commands) (take l.leaf-index l.leaves))) place
