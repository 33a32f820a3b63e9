use Rattle.std.proofs.Common.{◌≡◌, ◌+◌, ◌-◌, ◌≤◌, length, take, drop, vec_len, vec_capacity}
use Rattle.claim_board.proofs.Closing.{Taken}
use Rattle.claim_board.proofs.draw.Board.give_back.Given as goal

abbrev pub invariant-loop-i : goal.invariant-loop-i
invariant-loop-i g l =
    let all = l.fn.self.table.shared.key.pieces.value.items in
    Taken l.i l.count l.closed.slots.filled
    × (l.closed.slots.items ≡ l.initial.closed.slots.items)
    × (l.closed.slots.len ≡ l.count + 1)
    × (l.left.items ≡ take (l.i - l.draws) (drop l.draws all))
    × (vec_len l.left ≤ l.i) × (length all ≤ vec_capacity l.left)
