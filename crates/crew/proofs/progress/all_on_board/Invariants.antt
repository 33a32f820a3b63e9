use Rattle.std.proofs.Common.{◌≡◌, ◌+◌, ◌≤◌, ◌++◌, drop, length, map}
use Rattle.std.specs.VecDeque.{deque_capacity}
use Rattle.crew.specs.Marks.{forgotten, jobs_in}
use Rattle.crew.specs.Round.{joined, numbered_pieces}
use Rattle.crew.proofs.progress.all_on_board.Given as goal

-- what lies on the board, and the remaining pieces, are all pieces
abbrev pub invariant-loop-piece : goal.invariant-loop-piece
invariant-loop-piece g l = record {
  room : length l.pieces ≤ deque_capacity l.board;
  count : length l.board.items ≡ l.piece-index;
  first : l.first + length (joined (map (λ piece. piece.items) (drop l.piece-index l.pieces))) ≡ length (joined (map (λ piece. piece.items) l.pieces));
  board : map jobs_in l.board.items ++ numbered_pieces l.first (map (λ piece. forgotten piece.items) (drop l.piece-index l.pieces)) ≡ numbered_pieces 0 (map (λ piece. forgotten piece.items) l.pieces);
}
