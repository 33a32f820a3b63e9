use Rattle.std.proofs.Common.{◌≡◌}
use Rattle.std.specs.Vec.Iter.{into_iter_items}
use Rattle.crew.specs.Home.{placed}
use Rattle.crew.proofs.home.place_all.Given as goal

abbrev pub invariant-loop-worked : goal.invariant-loop-worked
invariant-loop-worked g l = placed l.homes.items (into_iter_items l.worked-iterator) ≡ placed l.initial.homes.items l.fn.all.items
