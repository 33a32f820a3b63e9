use Rattle.std.proofs.Common.{◌≡◌, ◌≤◌, drop, vec_capacity}
use Rattle.flush_log.specs.Gathering.{span_of, IsInside}
use Rattle.flush_log.proofs.GatherRuns.{Going}
use Rattle.flush_log.proofs.write.put_image.Given as goal

-- the frames before this place are gathered, and none of the calls so far has failed
abbrev pub invariant-loop-at : goal.invariant-loop-at
invariant-loop-at g l =
    let disk = g.D.Disk in
    record {
      inside : IsInside l.settings (span_of l.gathered l.buffer.items);
      buffer : l.settings.seg_size ≤ vec_capacity l.buffer;
      failed : disk.failed l.disk ≡ disk.failed l.fn.disk;
      going : Going l.settings (span_of l.fn.part l.fn.buffer.items) l.image (disk.view l.fn.disk) (disk.view l.disk) (span_of l.gathered l.buffer.items) (drop l.at l.image);
    }
