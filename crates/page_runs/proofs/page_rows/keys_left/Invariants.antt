use Rattle.std.proofs.Common.{◌≡◌, ◌++◌, length}
use Rattle.keys.specs.Order.{IsRising}
use Rattle.page_runs.proofs.page_rows.keys_left.Given as goal
use Rattle.page_runs.proofs.NamedRows.{keys_of_changes}

-- the keys so far, and those that the remaining keys give, are those of all
abbrev pub invariant-loop-key : goal.invariant-loop-key
invariant-loop-key l = record {
  all : l.keys.items ++ keys_of_changes l.end l.named ≡ keys_of_changes l.end l.fn.named;
  rising : IsRising l.named;
}

abbrev pub decreases-loop-key : goal.decreases-loop-key
decreases-loop-key l = length l.named
