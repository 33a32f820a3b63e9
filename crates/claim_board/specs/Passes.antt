-- A board and its passes, from a caller's view.
use Rattle.std.specs.Prelude.{◌≡◌, ℕ, ◌<◌, ◌≤◌, Bool, true, false, IsTrue, List, [], length, drop}
use Rattle.std.specs.List.{Any, flat_map}
use Rattle.claim_board.specs.declared.draw.Board.{Board}
use Rattle.claim_board.specs.declared.draw.Pass.{Pass}
use Rattle.claim_board.specs.Counting.{HasEachBelowOnce}

module _ {P : Type 0} where
  -- the pieces that the board was opened with, in order
  abbrev pub pieces_of : Board P → List P
  pieces_of board = board.table.shared.key.pieces.value.items

  -- how many passes the board was opened with
  abbrev pub count_of_passes : Board P → ℕ
  count_of_passes board = board.table.shared.key.passes

  -- the numbers of the pieces that the pass claimed, in order
  abbrev pub drawn_by : Pass P → List ℕ
  drawn_by pass = pass.seat.me.0.drawn

  -- whether the pass found that no piece was left
  abbrev pub found_none : Pass P → Bool
  found_none pass = pass.is_spent

  -- the pass is one of those that the board was opened with
  pub record IsPassOf (board : Board P) (pass : Pass P) : Type 0 where
    pub same_table : pass.seat.table_id ≡ board.table.shared.table_id
    pub same_pieces : pass.seat.me.0.pieces ≡ pieces_of board
    pub one : pass.seat.me.0.passes ≡ 1
    pub not_spent : found_none pass ≡ false → pass.seat.me.0.misses ≡ 0
    pub spent : found_none pass ≡ true → 0 < pass.seat.me.0.misses

  -- a pass of the board that has claimed nothing yet, and has not found that no piece was left
  abbrev pub IsNewPassOf : Board P → Pass P → Type 0
  IsNewPassOf board pass = IsPassOf board pass × (drawn_by pass ≡ []) × (found_none pass ≡ false)

  -- the numbers that all these passes claimed
  abbrev pub drawn_by_all : List (Pass P) → List ℕ
  drawn_by_all passes = flat_map drawn_by passes

  -- the result of closing a board that was opened with these pieces, with all its passes, where the pieces `left` are returned
  pub record Closes (pieces : List P) (passes : List (Pass P)) (left : List P) : Type 0 where
    -- the claimed numbers are those below their count, each claimed by one pass, once
    pub once : HasEachBelowOnce (length (drawn_by_all passes)) (drawn_by_all passes)
    pub within : length (drawn_by_all passes) ≤ length pieces
    -- the remaining pieces are returned, in order
    pub left_are : left ≡ drop (length (drawn_by_all passes)) pieces
    -- a pass finds no piece only if all are claimed
    pub none_left : Any (λ pass. IsTrue (found_none pass)) passes → length (drawn_by_all passes) ≡ length pieces
