use Rattle.std.proofs.Common.{⊎_elim}
use Rattle.engine.proofs.FileStoreLemmas.{of_late}
use Rattle.engine.proofs.OpeningLemmas.{of_damaged, of_store}
use Rattle.engine.proofs.options.existing_store.Goals as goal

pub returns-in-Ok-clause-opened : goal.returns-in-Ok-clause-opened
returns-in-Ok-clause-opened g c = c.in-Ok.ensures.read c.requires

pub returns-in-Err-clause-opened : goal.returns-in-Err-clause-opened
returns-in-Err-clause-opened g c =
    let (file, read, fault) = c.in-Err.ensures.read c.requires in
    let refused = c.in-Err.refused in
    let reason = c.reason.result in
    let reported = c.with_reason.result in (
      file,
      read,
      ⊎_elim
          (λ is. of_damaged file refused.0 reason reported is c.with_reason.ensures)
          (λ late. of_store file reported (of_late file (g.D.Disk.failed c.args.disk) (g.D.Disk.failed refused.1) refused.0 reported late reason c.reason.ensures c.with_reason.ensures))
          fault,
    )
