use Rattle.std.proofs.Common.{◌≡◌, ◌+◌, ◌≤◌, ◌++◌, map, reverse, vec_len, vec_capacity}
use Rattle.claim_board.specs.declared.rule.Slot.TheVariants.{Piece}
use Rattle.claim_board.proofs.open.take_back.Given as goal

abbrev pub invariant-loop-slot : goal.invariant-loop-slot
invariant-loop-slot g l =
    (l.slots.items ++ map Piece (reverse l.pieces.items) ≡ map Piece l.about.pieces.value.items)
    × (vec_len l.pieces + vec_len l.slots ≤ vec_capacity l.pieces)

abbrev pub decreases-loop-slot : goal.decreases-loop-slot
decreases-loop-slot g l = vec_len l.slots
