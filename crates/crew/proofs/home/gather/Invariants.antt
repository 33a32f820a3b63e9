use Rattle.std.proofs.Common.{◌≡◌, ◌≤◌, ◌++◌, [], map, false}
use Rattle.std.specs.Prelude.{vec_capacity}
use Rattle.std.specs.List.{AllByRecursion, flat_map}
use Rattle.std.specs.Vec.Iter.{into_iter_items}
use Rattle.crew.specs.Home.{home_origins, IsMadeHome}
use Rattle.crew.proofs.home.gather.Given as goal

-- the returned jobs, those of the outputs, and those of the remaining places are all
abbrev pub invariant-loop-home : goal.invariant-loop-home
invariant-loop-home g l = record {
  all : map g.W.Work.held l.jobs.items ++ (map g.W.Work.origin l.dones.items ++ flat_map (home_origins g.W.Work) (into_iter_items l.home-iterator)) ≡ flat_map (home_origins g.W.Work) l.fn.homes.items;
  made : map g.W.Work.outcome l.dones.items ≡ map (g.W.Work.made l.work) (map g.W.Work.origin l.dones.items);
  rest : AllByRecursion (IsMadeHome g.W.Work l.work) (into_iter_items l.home-iterator);
  none : l.refused ≡ false → l.jobs.items ≡ [];
  room : (vec_capacity l.fn.jobs ≤ vec_capacity l.jobs) × (vec_capacity l.fn.dones ≤ vec_capacity l.dones);
}
