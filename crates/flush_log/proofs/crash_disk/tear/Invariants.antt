use Rattle.flush_log.specs.Record.{calls_of}
use Rattle.flush_log.proofs.CrashLemmas.{IsTearing}
use Rattle.flush_log.proofs.crash_disk.tear.Given as goal

abbrev pub invariant-loop-call : goal.invariant-loop-call
invariant-loop-call g l = IsTearing l.fill (calls_of l.calls) l.initial.file.items l.call-index l.file.items
