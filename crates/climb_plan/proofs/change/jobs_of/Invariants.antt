use Rattle.std.proofs.Common.{◌≡◌, ◌++◌, map, drop, length, vec_len}
use Rattle.std.specs.Prelude.{vec_capacity}
use Rattle.split_plan.specs.Pieces.{pages_lent}
use Rattle.climb_plan.specs.Rewriting.{all_seen}
use Rattle.climb_plan.proofs.change.jobs_of.Given as goal

-- the jobs so far, and those of the groups from the place on, are all of them; and there is room for the rest
abbrev pub invariant-loop-group : goal.invariant-loop-group
invariant-loop-group l = record {
  made : map (λ job. pages_lent job.members.items) l.jobs.items ++ map (λ g. map (λ x. x.page) (all_seen g.items)) (drop l.group-index l.groups) ≡ map (λ g. map (λ x. x.page) (all_seen g.items)) l.groups;
  count : vec_len l.jobs ≡ l.group-index;
  room : vec_capacity l.jobs ≡ length l.groups;
}
