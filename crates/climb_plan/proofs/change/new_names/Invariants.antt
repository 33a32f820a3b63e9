use Rattle.std.proofs.Common.{◌≡◌, ◌++◌, flat_map, drop}
use Rattle.climb_plan.specs.Rewriting.{fresh_names}
use Rattle.climb_plan.proofs.change.new_names.Given as goal

-- the separators so far, and those of the groups from the place on, are all of them
abbrev pub invariant-loop-group : goal.invariant-loop-group
invariant-loop-group l = l.names.items ++ flat_map fresh_names (drop l.group-index l.all) ≡ flat_map fresh_names l.all
