use Rattle.std.proofs.Common.{◌≡◌, ◌++◌, ℕ}
use Rattle.std.specs.BTreeMap.{get}
use Rattle.std.specs.Ordering.{nat_cmp}
use Rattle.cleaner.specs.Chosen.{held, pages_in}
use Rattle.cleaner.proofs.reading.by_segment.Given as goal

-- of each segment the pages that are grouped, and the remaining ones
abbrev pub invariant-loop-entry : goal.invariant-loop-entry
invariant-loop-entry l = (n : ℕ) → held (get nat_cmp l.pages n) ++ pages_in n l.entry-iterator ≡ pages_in n l.fn.by_pid.entries
