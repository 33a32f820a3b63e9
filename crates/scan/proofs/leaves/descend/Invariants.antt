use Rattle.std.proofs.Common.{◌≡◌, length, pred, ◌-◌}
use Rattle.scan.specs.Direction.{in_turn}
use Rattle.scan.specs.Edge.{is_under}
use Rattle.scan.specs.Walk.{IsWalk, IsAt, walk_beyond, walk_ahead}
use Rattle.scan.proofs.leaves.descend.Given as goal

-- the leaves to which the descent leads from here, and those of the path, are the same as at the beginning
abbrev pub invariant-loop-page : goal.invariant-loop-page
invariant-loop-page g l = record {
  walk : IsWalk l.tree l.path;
  known : IsAt l.tree (length l.path.items) l.pid;
  leaves : in_turn g.W.Towards.direction (walk_beyond g.W.Towards.direction l.tree (length l.path.items) (is_under l.edge) l.pid) (walk_ahead g.W.Towards.direction l.tree l.path.items)
      ≡ in_turn g.W.Towards.direction (walk_beyond g.W.Towards.direction l.tree (length l.initial.path.items) (is_under l.edge) l.fn.from) (walk_ahead g.W.Towards.direction l.tree l.initial.path.items);
}

abbrev pub decreases-loop-page : goal.decreases-loop-page
decreases-loop-page g l = pred l.tree.height - length l.path.items
