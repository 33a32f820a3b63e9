use Rattle.std.proofs.Common.{◌≡◌, ◌++◌, map, drop, length, vec_len}
use Rattle.std.specs.Prelude.{vec_capacity}
use Rattle.climb_plan.specs.Rewriting.{all_seen}
use Rattle.climb_plan.proofs.change.pids_of.Given as goal

-- the pids so far, and those from the place on, are all of them; and there is room for the rest
abbrev pub invariant-loop-member : goal.invariant-loop-member
invariant-loop-member l = record {
  made : l.pids.items ++ map (λ x. x.pid) (all_seen (drop l.member-index l.group)) ≡ map (λ x. x.pid) (all_seen l.group);
  count : vec_len l.pids ≡ l.member-index;
  room : vec_capacity l.pids ≡ length l.group;
}
