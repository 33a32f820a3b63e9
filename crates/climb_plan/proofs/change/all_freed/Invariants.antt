use Rattle.std.proofs.Common.{◌≡◌, ◌++◌, map, drop, length, vec_len}
use Rattle.std.specs.Prelude.{vec_capacity}
use Rattle.climb_plan.specs.Rewriting.{all_seen, freed_names}
use Rattle.climb_plan.proofs.change.all_freed.Given as goal

-- the separators so far, and those of the groups from the place on, are all of them; and there is room for the rest
abbrev pub invariant-loop-group : goal.invariant-loop-group
invariant-loop-group l = record {
  made : map (λ names. names.items) l.all.items ++ map freed_names (map (λ g. all_seen g.items) (drop l.group-index l.groups)) ≡ map freed_names (map (λ g. all_seen g.items) l.groups);
  count : vec_len l.all ≡ l.group-index;
  room : vec_capacity l.all ≡ length l.groups;
}
