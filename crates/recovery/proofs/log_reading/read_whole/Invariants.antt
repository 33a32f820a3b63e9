use Rattle.std.proofs.Common.{◌≡◌, ◌+◌, ◌-◌, ◌*◌, ◌^◌, ◌<◌, ◌≤◌, ℕ, IsTrue, length}
use Rattle.std.specs.Prelude.{vec_capacity}
use Rattle.std.specs.List.{All}
use Rattle.keys.specs.Bytes.{Bytes}
use Rattle.flush_log.specs.Disk.{Kept, Same}
use Rattle.recovery.specs.Recovered.{IsReadOf}
use Rattle.recovery.specs.Scan.{held_segment}
use Rattle.recovery.proofs.ReadLog.{AreReadAfter}
use Rattle.recovery.proofs.log_reading.read_whole.Given as goal

-- the segments before this one were read, and no read has failed
abbrev pub invariant-loop-number : goal.invariant-loop-number
invariant-loop-number g l =
    let disk = g.D.Disk in
    record {
      rest : length l.rest + (l.number - l.first) * l.format.settings.seg_size ≡ l.count * l.format.settings.seg_size;
      read_so_far : length l.segments.items ≡ l.number - l.first;
      room : vec_capacity l.segments ≡ l.count;
      short : All (λ h. length (held_segment h).bytes < 2 ^ 32) l.segments.items;
      kept : Kept (disk.view l.fn.disk) (disk.view l.disk);
      same : IsTrue (disk.view l.fn.disk).is_honest → Same (disk.view l.fn.disk) (disk.view l.disk);
      counted : disk.failed l.disk ≡ disk.failed l.fn.disk;
      read : (file : Bytes) (head : ℕ) → IsReadOf (disk.view l.fn.disk) file → head ≤ l.first → l.first + l.count ≤ head + l.format.settings.segments →
          (now : Bytes) × AreReadAfter (disk.view l.disk) l.format head (l.first - head) (l.number - head) l.segments.items file now;
    }
