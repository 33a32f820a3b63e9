use Rattle.std.specs.List.{AllAdjacentBelow}
use Rattle.page_runs.proofs.PointsByKey.{Follow}
use Rattle.page_runs.proofs.places.are_points_by_key.Given as goal

-- each two neighbours so far are on one key each and in the order of their keys
abbrev pub invariant-loop-at : goal.invariant-loop-at
invariant-loop-at l = AllAdjacentBelow (Follow l.commands) l.places l.at
