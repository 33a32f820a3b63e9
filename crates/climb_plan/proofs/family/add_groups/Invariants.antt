use Rattle.std.proofs.Common.{map, ◌++◌}
use Rattle.climb_plan.specs.Rewriting.{all_seen, rewritten_groups}
use Rattle.climb_plan.proofs.RewritingGroups.{IsDealt}
use Rattle.climb_plan.proofs.family.add_groups.Given as goal

-- the groups so far are done
abbrev pub invariant-loop-size : goal.invariant-loop-size
invariant-loop-size l = IsDealt l.children l.size-items (map (λ g. all_seen g.items) l.fn.rewritten.items ++ rewritten_groups (all_seen l.children)) l.start l.size-index (map (λ g. all_seen g.items) l.rewritten.items)
