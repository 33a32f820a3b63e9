use Rattle.std.proofs.Common.{◌≡◌, ◌++◌, ◌-◌, length}
use Rattle.keys.specs.Order.{IsRising}
use Rattle.keys.specs.Range.{rows}
use Rattle.replies.proofs.LentRows.{rows_before}
use Rattle.replies.proofs.in_turn.LentMap.rows.Given as goal

-- the rows so far, and those that the remaining pairs give, are the rows
abbrev pub invariant-loop-key : goal.invariant-loop-key
invariant-loop-key l = record {
  all : l.rows ++ rows_before l.hi (l.limit - length l.rows) l.key-iterator ≡ rows l.lo l.hi l.limit l.self;
  rising : IsRising l.key-iterator;
}
