use Rattle.std.proofs.Common.{◌≡◌, ◌+◌, ◌≤◌, ◌++◌, map, reverse, length}
use Rattle.std.specs.Prelude.{vec_capacity}
use Rattle.std.specs.List.{All}
use Rattle.crew.proofs.in_turn.work_in_turn.Given as goal

-- what is done and the jobs on the list, its top first, come from all the jobs; both lists have room for all
abbrev pub invariant-loop-job : goal.invariant-loop-job
invariant-loop-job g l = record {
  accepted : All (λ job. g.W.Work.accepts l.work (g.W.Work.held job)) l.jobs.items;
  room : length l.jobs.items + length l.dones.items ≤ vec_capacity l.dones;
  way_back : length l.jobs.items + length l.dones.items ≤ vec_capacity l.jobs;
  origin : map g.W.Work.origin l.dones.items ++ map g.W.Work.held (reverse l.jobs.items) ≡ map g.W.Work.held l.fn.jobs.items;
  made : map g.W.Work.outcome l.dones.items ≡ map (g.W.Work.made l.work) (map g.W.Work.origin l.dones.items);
}

abbrev pub decreases-loop-job : goal.decreases-loop-job
decreases-loop-job g l = length l.jobs.items
