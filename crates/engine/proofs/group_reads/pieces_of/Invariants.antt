use Rattle.std.proofs.Common.{◌≡◌, map, take}
use Rattle.keys.specs.PlacedPieces.{by_place}
use Rattle.engine.specs.GroupReads.{piece_of}
use Rattle.engine.proofs.group_reads.pieces_of.Given as goal

abbrev pub invariant-loop-one : goal.invariant-loop-one
invariant-loop-one l = l.pieces ≡ by_place (map piece_of (take l.one-index l.found))
