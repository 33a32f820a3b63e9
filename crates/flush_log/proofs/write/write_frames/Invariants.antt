use Rattle.std.proofs.Common.{◌≡◌, ◌≤◌, ◌/◌, ◌%◌, drop, vec_capacity}
use Rattle.flush_log.specs.Gathering.{span_of, IsInside}
use Rattle.flush_log.specs.Images.{frames_in}
use Rattle.flush_log.specs.Layout.{opened}
use Rattle.flush_log.proofs.GatherRuns.{Going}
use Rattle.flush_log.proofs.write.write_frames.Given as goal

-- the images before this one are gathered, and none of the calls so far has failed
abbrev pub invariant-loop-image : goal.invariant-loop-image
invariant-loop-image g l =
    let disk = g.D.Disk in
    record {
      inside : IsInside l.settings (span_of l.part l.buffer.items);
      buffer : l.settings.seg_size ≤ vec_capacity l.buffer;
      failed : disk.failed l.disk ≡ disk.failed l.fn.disk;
      going : Going l.settings (opened (l.tail / l.settings.seg_size) (l.tail % l.settings.seg_size)) (frames_in l.images) (disk.view l.fn.disk) (disk.view l.disk) (span_of l.part l.buffer.items) (frames_in (drop l.image-index l.images));
    }
