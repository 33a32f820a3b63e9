use Rattle.std.proofs.Common.{◌≡◌, flat_map, drop}
use Rattle.mapping.specs.Table.{freed_all}
use Rattle.climb_plan.specs.Installing.{AreAway}
use Rattle.climb_plan.proofs.change.free_drawn.Given as goal

-- the places of the later groups are still empty, and after they are freed too, all are
abbrev pub invariant-loop-group : goal.invariant-loop-group
invariant-loop-group l = record {
  away : AreAway l.tree.table (flat_map (λ r. r.fresh) (drop l.group-index l.all));
  freed : record l.tree { table = freed_all l.tree.table (flat_map (λ r. r.fresh) (drop l.group-index l.all)) } ≡ record l.initial.tree { table = freed_all l.initial.tree.table (flat_map (λ r. r.fresh) l.all) };
}
