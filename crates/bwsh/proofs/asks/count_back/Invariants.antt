use Rattle.std.proofs.Common.{◌≡◌, ◌+◌, length}
use Rattle.bwsh.proofs.asks.count_back.Given as goal

-- the rows so far and those that are left are all rows
abbrev pub invariant-loop-row : goal.invariant-loop-row
invariant-loop-row l = l.count + length l._row-iterator ≡ length l.fn.rows
