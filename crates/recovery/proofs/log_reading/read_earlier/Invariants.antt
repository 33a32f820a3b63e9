use Rattle.std.proofs.Common.{◌≡◌, ◌≤◌, ◌-◌, [], IsTrue, Ok, length}
use Rattle.keys.specs.Bytes.{Bytes}
use Rattle.flush_log.specs.Disk.{Kept, Same}
use Rattle.flush_log.specs.Segments.{last_segment}
use Rattle.recovery.specs.Gathered.{IsPartialLog}
use Rattle.recovery.specs.Recovered.{IsReadOf}
use Rattle.recovery.specs.declared.gather.Wanted.{Wanted}
use Rattle.recovery.proofs.ReadLog.{AreReadUpto}
use Rattle.recovery.proofs.log_reading.read_earlier.Given as goal

-- the segments before this one were read, and no read has failed
abbrev pub invariant-loop-first : goal.invariant-loop-first
invariant-loop-first g l =
    let disk = g.D.Disk in
    record {
      from : l.ends.head ≤ l.first;
      upto : l.first ≤ last_segment l.format.settings l.ends.tail;
      buffer : length l.buffer.items ≡ length l.fn.buffer.items;
      kept : Kept (disk.view l.fn.disk) (disk.view l.disk);
      same : IsTrue (disk.view l.fn.disk).is_honest → Same (disk.view l.fn.disk) (disk.view l.disk);
      counted : disk.failed l.disk ≡ disk.failed l.fn.disk;
      read : (w : Wanted) (file : Bytes) → IsReadOf (disk.view l.fn.disk) file → IsPartialLog w l.fn.so_far.gathering l.fn.so_far.fault (Ok []) →
          (now : Bytes) × AreReadUpto (IsPartialLog w l.so_far.gathering l.so_far.fault) (disk.view l.disk) l.format l.ends.head (l.first - l.ends.head) file now;
    }

abbrev pub decreases-loop-first : goal.decreases-loop-first
decreases-loop-first g l = last_segment l.format.settings l.ends.tail - l.first
