use Rattle.std.proofs.Common.{◌≡◌, ◌≤◌, length, vec_len}
use Rattle.std.specs.Prelude.{vec_capacity}
use Rattle.mapping.specs.Levels.{entries}
use Rattle.climb_plan.specs.Rewriting.{all_seen, OfFamily}
use Rattle.climb_plan.proofs.RewritingFamily.{IsSoFar}
use Rattle.climb_plan.proofs.family.family.Given as goal

-- the children so far are seen, and there is room for the rest
abbrev pub invariant-loop-at : goal.invariant-loop-at
invariant-loop-at l = record {
  most : l.next ≤ length l.seen;
  count : vec_len l.children ≡ l.at;
  room : l.at-end ≤ vec_capacity l.children;
  made : OfFamily l.tree.table (all_seen l.seen) l.fn.parent (λ f. IsSoFar l.tree.table l.seen (entries f.parent) f.children f.later l.next l.at (all_seen l.children.items));
}
