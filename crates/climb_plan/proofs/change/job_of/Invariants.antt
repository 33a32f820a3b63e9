use Rattle.std.proofs.Common.{◌≡◌, ◌++◌, map, drop, length, vec_len}
use Rattle.std.specs.Prelude.{vec_capacity}
use Rattle.split_plan.specs.Pieces.{pages_lent}
use Rattle.climb_plan.specs.Rewriting.{all_seen}
use Rattle.climb_plan.proofs.change.job_of.Given as goal

-- the pages so far, and those from the place on, are all of them; and there is room for the rest
abbrev pub invariant-loop-member : goal.invariant-loop-member
invariant-loop-member l = record {
  made : pages_lent l.members.items ++ map (λ x. x.page) (all_seen (drop l.member-index l.group)) ≡ map (λ x. x.page) (all_seen l.group);
  count : vec_len l.members ≡ l.member-index;
  room : vec_capacity l.members ≡ length l.group;
}
