use Rattle.std.proofs.Common.{◌≡◌}
use Rattle.std.specs.Vec.Iter.{into_iter_items}
use Rattle.climb_plan.specs.Installing.{CanInstallAll}
use Rattle.climb_plan.proofs.Installing.{tree_installed}
use Rattle.climb_plan.proofs.install.install_all.Given as goal

-- the remaining groups can be replaced, and these in the tree now are all in the tree before
abbrev pub invariant-loop-group : goal.invariant-loop-group
invariant-loop-group l = record {
  can : CanInstallAll l.tree.table (into_iter_items l.group-iterator);
  installed : tree_installed l.tree (into_iter_items l.group-iterator) ≡ tree_installed l.fn.tree l.fn.all.items;
}
