use Rattle.std.proofs.Common.{◌≡◌, drop, flat_map}
use Rattle.mapping.specs.TreeInMemory.{tree_of}
use Rattle.keys.specs.declared.version.Version.{Version}
use Rattle.flush_log.specs.FlushText.{pid_frames}
use Rattle.flush_log.specs.declared.text.CommitKind.TheVariants.{Flush}
use Rattle.flush_log.proofs.text.are_written.Given as goal

-- the frames are those of the remaining pids, in each version
abbrev pub invariant-loop-pid : goal.invariant-loop-pid
invariant-loop-pid l = (version : Version) → flat_map (pid_frames (Flush version) (tree_of l.tree)) (drop l.pid-index l.pids) ≡ flat_map (pid_frames (Flush version) (tree_of l.tree)) l.pids
