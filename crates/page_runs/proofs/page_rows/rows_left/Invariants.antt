use Rattle.std.proofs.Common.{◌≡◌, ◌++◌, ◌-◌, length}
use Rattle.keys.specs.Order.{IsRising}
use Rattle.page_runs.proofs.page_rows.rows_left.Given as goal
use Rattle.page_runs.proofs.NamedRows.{rows_of_changes}

-- the rows so far, and those that the remaining keys give, are those of all the keys
abbrev pub invariant-loop-key : goal.invariant-loop-key
invariant-loop-key l = record {
  all : l.rows ++ rows_of_changes l.end (l.limit - length l.rows) l.named ≡ rows_of_changes l.end (l.limit - 0) l.fn.named;
  rising : IsRising l.named;
}

abbrev pub decreases-loop-key : goal.decreases-loop-key
decreases-loop-key l = length l.named
