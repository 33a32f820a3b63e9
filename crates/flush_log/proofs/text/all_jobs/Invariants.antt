use Rattle.std.proofs.Common.{◌≡◌, map}
use Rattle.std.specs.List.{AllByRecursion}
use Rattle.mapping.specs.TreeInMemory.{tree_of}
use Rattle.flush_log.specs.FlushText.{commit_frames}
use Rattle.flush_log.specs.ImageWork.{job_held, IsDue}
use Rattle.flush_log.proofs.TextImages.{text_with}
use Rattle.flush_log.proofs.text.all_jobs.Given as goal

-- the frames of the jobs so far, and those of the remaining pids, are all frames
abbrev pub invariant-loop-pid : goal.invariant-loop-pid
invariant-loop-pid l = record {
  text : text_with l.text (tree_of l.tree) (map job_held l.jobs.items) l.pid-iterator ≡ commit_frames l.text (tree_of l.tree);
  due : AllByRecursion IsDue (map job_held l.jobs.items);
}
