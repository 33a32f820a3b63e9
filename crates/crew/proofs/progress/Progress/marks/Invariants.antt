use Rattle.std.proofs.Common.{◌≡◌, ℕ, ◌<◌, None, slice_index_or, length, take}
use Rattle.std.specs.Prelude.{option_map}
use Rattle.crew.specs.Marks.{fates_by, mark_of}
use Rattle.crew.specs.Round.{fate_of}
use Rattle.crew.proofs.progress.Progress.marks.Given as goal

-- each job has the mark that those so far give it
abbrev pub invariant-loop-job : goal.invariant-loop-job
invariant-loop-job l = record {
  count : length l.marks.items ≡ l.jobs;
  marks : (job : ℕ) → job < l.jobs → slice_index_or l.marks.items job None ≡ option_map mark_of (fate_of job (fates_by (take l.job-index l.job-items)));
}
