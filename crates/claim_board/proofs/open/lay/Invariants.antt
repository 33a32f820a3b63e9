use Rattle.std.proofs.Common.{◌≡◌, ◌+◌, ◌<◌, ◌++◌, map, reverse, vec_len, vec_capacity}
use Rattle.claim_board.specs.declared.rule.Slot.TheVariants.{Piece}
use Rattle.claim_board.proofs.open.lay.Given as goal

abbrev pub invariant-loop-piece : goal.invariant-loop-piece
invariant-loop-piece g l =
    (l.slots.items ++ map Piece (reverse l.pieces.items) ≡ map Piece l.fn.pieces.items)
    × (vec_len l.slots + vec_len l.pieces < vec_capacity l.slots)
    × (vec_capacity l.pieces ≡ vec_capacity l.fn.pieces)

abbrev pub decreases-loop-piece : goal.decreases-loop-piece
decreases-loop-piece g l = vec_len l.pieces
