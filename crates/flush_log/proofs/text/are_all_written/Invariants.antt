use Rattle.std.proofs.Common.{◌≡◌, flat_map}
use Rattle.mapping.specs.TreeInMemory.{tree_of}
use Rattle.keys.specs.declared.version.Version.{Version}
use Rattle.flush_log.specs.FlushText.{pid_frames, flush_frames}
use Rattle.flush_log.specs.declared.text.CommitKind.TheVariants.{Flush}
use Rattle.flush_log.proofs.text.are_all_written.Given as goal

-- the frames are those of the remaining pids, in each version
abbrev pub invariant-loop-pid : goal.invariant-loop-pid
invariant-loop-pid l = (version : Version) → flat_map (pid_frames (Flush version) (tree_of l.tree)) l.pid-iterator ≡ flush_frames version (tree_of l.tree)
