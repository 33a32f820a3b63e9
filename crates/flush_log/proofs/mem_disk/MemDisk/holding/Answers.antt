use Rattle.std.proofs.Common.{refl}
use Rattle.flush_log.proofs.ViewLemmas.{owes_nothing}
use Rattle.flush_log.proofs.mem_disk.MemDisk.holding.Goals as goal

pub returns-in_err-note_write-clause-len : goal.returns-in_err-note_write-clause-len
returns-in_err-note_write-clause-len g c = owes_nothing c.from_residual.result _ c.from_residual.ensures.0

pub returns-in_err-note_write-clause-kept : goal.returns-in_err-note_write-clause-kept
returns-in_err-note_write-clause-kept g c = owes_nothing c.from_residual.result _ c.from_residual.ensures.0

pub returns-in_err-note_write-clause-calls : goal.returns-in_err-note_write-clause-calls
returns-in_err-note_write-clause-calls g c = owes_nothing c.from_residual.result _ c.from_residual.ensures.0

pub returns-in_err-note-clause-len : goal.returns-in_err-note-clause-len
returns-in_err-note-clause-len g c = owes_nothing c.from_residual-in_err-note.result _ c.from_residual-in_err-note.ensures.0

pub returns-in_err-note-clause-kept : goal.returns-in_err-note-clause-kept
returns-in_err-note-clause-kept g c = owes_nothing c.from_residual-in_err-note.result _ c.from_residual-in_err-note.ensures.0

pub returns-in_err-note-clause-calls : goal.returns-in_err-note-clause-calls
returns-in_err-note-clause-calls g c = owes_nothing c.from_residual-in_err-note.result _ c.from_residual-in_err-note.ensures.0

pub returns-clause-kept : goal.returns-clause-kept
returns-clause-kept g c = refl
