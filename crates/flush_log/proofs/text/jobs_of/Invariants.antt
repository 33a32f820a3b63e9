use Rattle.std.proofs.Common.{◌≡◌, drop, map, flat_map}
use Rattle.std.specs.List.{AllByRecursion}
use Rattle.mapping.specs.TreeInMemory.{tree_of}
use Rattle.flush_log.specs.FlushText.{pid_frames}
use Rattle.flush_log.specs.ImageWork.{job_held, IsDue}
use Rattle.flush_log.proofs.TextImages.{text_with}
use Rattle.flush_log.proofs.text.jobs_of.Given as goal

-- the frames of the jobs so far, and those of the remaining pids, are the frames of all pids
abbrev pub invariant-loop-pid : goal.invariant-loop-pid
invariant-loop-pid l = record {
  text : text_with l.text (tree_of l.tree) (map job_held l.jobs.items) (drop l.pid-index l.pids) ≡ flat_map (pid_frames l.text (tree_of l.tree)) l.pids;
  due : AllByRecursion IsDue (map job_held l.jobs.items);
}
