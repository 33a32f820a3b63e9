use Rattle.std.proofs.Common.{⊎_elim, inr, sym, ap, ◌∙◌}
use Rattle.std.proofs.lemmas.Bool.{false≢true}
use Rattle.engine.specs.Hidden.{is_unfinished}
use Rattle.engine.proofs.FileStoreLemmas.{honest_nothing, if_ok_first, if_ok_second, nothing_stored, of_bytes, of_late, of_new, stored_if, stored_in}
use Rattle.engine.proofs.file_store.store_of.Goals as goal

pub returns-in-Ok-Store-clause-opened : goal.returns-in-Ok-Store-clause-opened
returns-in-Ok-Store-clause-opened g c =
    let (file, read, is) = c.in-Ok-Store.ensures.read in
    (file, read, inr (stored_in file c.in-Ok-Store.field-0 c.in-Ok-Store.store c.in-Ok-Store.field-0-is is))

pub returns-in-Ok-Nothing-clause-opened : goal.returns-in-Ok-Nothing-clause-opened
returns-in-Ok-Nothing-clause-opened g c =
    let (file, read, is) = c.in-Ok-Nothing.ensures.read in
    (file, read, of_new c.args.settings file c.new_store.result (nothing_stored file c.in-Ok-Nothing.field-0 c.in-Ok-Nothing.disk c.in-Ok-Nothing.field-0-is is) c.new_store.ensures.made c.new_store.ensures.refused)

pub returns-in-Err-clause-opened : goal.returns-in-Err-clause-opened
returns-in-Err-clause-opened g c =
    let (file, read, fault) = c.in-Err.ensures.read in
    let refused = c.in-Err.refused in
    let reason = c.reason.result in
    let reported = c.with_reason.result in (
      file,
      read,
      ⊎_elim
          (λ is. of_bytes file refused.0 reason reported is c.with_reason.ensures)
          (λ late. of_late file (g.D.Disk.failed c.args.disk) (g.D.Disk.failed refused.1) refused.0 reported late reason c.reason.ensures c.with_reason.ensures)
          fault,
    )

pub returns-in-Ok-Store-clause-bytes : goal.returns-in-Ok-Store-clause-bytes
returns-in-Ok-Store-clause-bytes g c honest unfinished =
    let (file, read, is) = c.in-Ok-Store.ensures.read in
    let other = (stored_in file c.in-Ok-Store.field-0 c.in-Ok-Store.store c.in-Ok-Store.field-0-is is).0 in
    absurd (false≢true (sym other ∙ ap is_unfinished (read.honest honest) ∙ unfinished))

pub returns-in-Ok-Store-clause-is_synced : goal.returns-in-Ok-Store-clause-is_synced
returns-in-Ok-Store-clause-is_synced g c honest = stored_if _ c.in-Ok-Store.field-0 c.in-Ok-Store.store c.in-Ok-Store.field-0-is (c.in-Ok-Store.ensures.is_synced honest)

pub returns-in-Ok-Nothing-clause-bytes : goal.returns-in-Ok-Nothing-clause-bytes
returns-in-Ok-Nothing-clause-bytes g c honest unfinished =
    if_ok_first c.new_store.result _ _ (c.new_store.ensures.bytes (honest_nothing g.D.Disk.view (g.D.Disk.view c.args.disk) c.in-Ok-Nothing.field-0 c.in-Ok-Nothing.disk c.in-Ok-Nothing.field-0-is c.in-Ok-Nothing.ensures.kept honest))

pub returns-in-Ok-Nothing-clause-is_synced : goal.returns-in-Ok-Nothing-clause-is_synced
returns-in-Ok-Nothing-clause-is_synced g c honest =
    if_ok_second c.new_store.result _ _ (c.new_store.ensures.bytes (honest_nothing g.D.Disk.view (g.D.Disk.view c.args.disk) c.in-Ok-Nothing.field-0 c.in-Ok-Nothing.disk c.in-Ok-Nothing.field-0-is c.in-Ok-Nothing.ensures.kept honest))
