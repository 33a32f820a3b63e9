use Rattle.std.proofs.Common.{◌≡◌, ◌++◌}
use Rattle.replies.proofs.in_turn.LentMap.to_rows.Given as goal

-- the rows so far and the remaining pairs are the map
abbrev pub invariant-loop-key : goal.invariant-loop-key
invariant-loop-key l = l.rows ++ l.key-iterator ≡ l.self
