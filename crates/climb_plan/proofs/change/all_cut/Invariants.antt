use Rattle.std.proofs.Common.{◌≡◌, ◌++◌, map, drop, length, vec_len}
use Rattle.std.specs.Prelude.{vec_capacity}
use Rattle.climb_plan.specs.Rewriting.{all_seen, joined_groups}
use Rattle.climb_plan.proofs.change.all_cut.Given as goal

-- the groups so far, and those that the rest will be, are all of them; and there is room for the rest
abbrev pub invariant-loop-group : goal.invariant-loop-group
invariant-loop-group l = record {
  made : l.all.items ++ joined_groups (map (λ g. all_seen g.items) (drop l.group-index l.groups)) (map (λ d. d.made) l.dones.items) ≡ joined_groups (map (λ g. all_seen g.items) l.groups) (map (λ d. d.made) l.fn.dones.items);
  count : vec_len l.all ≡ l.group-index;
  room : vec_capacity l.all ≡ length l.groups;
}
