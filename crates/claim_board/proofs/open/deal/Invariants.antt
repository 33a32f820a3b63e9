use Rattle.std.proofs.Common.{◌≡◌, ◌+◌, ◌-◌, ◌≤◌, [], length, vec_capacity}
use Rattle.std.specs.List.{All}
use Rattle.claim_board.specs.Rule.{hand}
use Rattle.claim_board.specs.Passes.{pieces_of, IsNewPassOf}
use Rattle.claim_board.proofs.open.deal.Given as goal

abbrev pub invariant-loop : goal.invariant-loop
invariant-loop g l =
    (l.seat.table_id ≡ l.board.table.shared.table_id)
    × (l.seat.me ≡ (hand (pieces_of l.board) (l.passes + 1 - l.counter) [] 0, []))
    × (length l.dealt.items + 1 ≡ l.counter)
    × (l.passes ≤ vec_capacity l.dealt)
    × All (IsNewPassOf l.board) l.dealt.items
