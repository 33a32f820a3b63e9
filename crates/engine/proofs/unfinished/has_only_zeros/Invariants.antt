use Rattle.std.specs.Prelude.{◌≡◌, ◌≤◌, ◌-◌, IsTrue, take, true}
use Rattle.flush_log.specs.Disk.{Kept, Same}
use Rattle.engine.specs.Hidden.{are_zeros}
use Rattle.engine.proofs.unfinished.has_only_zeros.Given as goal

-- the bytes before this place were read, and are zeros
abbrev pub invariant-pieces : goal.invariant-pieces
invariant-pieces g l = record {
  within : l.at ≤ l.len;
  kept : Kept (g.D.Disk.view l.fn.disk) (g.D.Disk.view l.disk);
  counted : g.D.Disk.failed l.disk ≡ g.D.Disk.failed l.fn.disk;
  same : IsTrue (g.D.Disk.view l.fn.disk).is_honest → Same (g.D.Disk.view l.fn.disk) (g.D.Disk.view l.disk);
  zeros : IsTrue (g.D.Disk.view l.fn.disk).is_honest → are_zeros (take l.at (g.D.Disk.view l.fn.disk).seen) ≡ true;
}

abbrev pub decreases-pieces : goal.decreases-pieces
decreases-pieces g l = l.len - l.at
