use Rattle.std.proofs.Common.{◌≡◌, ◌++◌, flat_map, drop}
use Rattle.mapping.specs.Finding.{children_at}
use Rattle.mapping.specs.TreeInMemory.{tree_of}
use Rattle.verify.proofs.level.places_below.Given as goal

-- the places below so far, and those below the places to come, are those below all
abbrev pub invariant-loop-place : goal.invariant-loop-place
invariant-loop-place l = l.below.items ++ flat_map (children_at (tree_of l.tree).pages) (drop l.place-index l.places) ≡ flat_map (children_at (tree_of l.tree).pages) l.places
