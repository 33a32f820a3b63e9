use Rattle.flush_log.proofs.ViewLemmas.{owes_nothing}
use Rattle.flush_log.proofs.crash_disk.CrashDisk.new.Goals as goal

pub returns-in_err-resize-clause-size : goal.returns-in_err-resize-clause-size
returns-in_err-resize-clause-size g c = owes_nothing c.from_residual.result _ c.from_residual.ensures.0

pub returns-in_err-resize-clause-seen : goal.returns-in_err-resize-clause-seen
returns-in_err-resize-clause-seen g c = owes_nothing c.from_residual.result _ c.from_residual.ensures.0

pub returns-in_err-resize-clause-is_synced : goal.returns-in_err-resize-clause-is_synced
returns-in_err-resize-clause-is_synced g c = owes_nothing c.from_residual.result _ c.from_residual.ensures.0

pub returns-in_err-resize-clause-failures : goal.returns-in_err-resize-clause-failures
returns-in_err-resize-clause-failures g c = owes_nothing c.from_residual.result _ c.from_residual.ensures.0

pub returns-in_err-resize-clause-running : goal.returns-in_err-resize-clause-running
returns-in_err-resize-clause-running g c = owes_nothing c.from_residual.result _ c.from_residual.ensures.0

pub returns-in_err-resize-clause-calls : goal.returns-in_err-resize-clause-calls
returns-in_err-resize-clause-calls g c = owes_nothing c.from_residual.result _ c.from_residual.ensures.0

pub returns-clause-is_synced : goal.returns-clause-is_synced
returns-clause-is_synced g c = c.holding.ensures.is_synced

pub returns-clause-failures : goal.returns-clause-failures
returns-clause-failures g c = c.holding.ensures.failures

pub returns-clause-running : goal.returns-clause-running
returns-clause-running g c = c.holding.ensures.running

pub returns-clause-calls : goal.returns-clause-calls
returns-clause-calls g c = c.holding.ensures.calls
