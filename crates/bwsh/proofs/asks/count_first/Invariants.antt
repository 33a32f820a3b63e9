use Rattle.std.proofs.Common.{◌≡◌, ◌≤◌, ◌+◌, length}
use Rattle.bwsh.proofs.asks.count_first.Given as goal

-- the rows so far, at most as many as asked for, and those that are left are all rows
abbrev pub invariant-loop-row : goal.invariant-loop-row
invariant-loop-row l = (l.count ≤ l.most) × (l.count + length l.rows ≡ length l.fn.rows)

abbrev pub decreases-loop-row : goal.decreases-loop-row
decreases-loop-row l = length l.rows
