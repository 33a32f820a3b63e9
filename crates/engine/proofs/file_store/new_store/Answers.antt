use Rattle.std.proofs.Common.{rules, subst, sym, IsTrue}
use Rattle.engine.proofs.FileStoreLemmas.{made_late, of_late, on_zeros}
use Rattle.engine.proofs.file_store.new_store.Goals as goal

pub returns-in-Ok-clause-made : goal.returns-in-Ok-clause-made
returns-in-Ok-clause-made g c = let made = c.in-Ok.ensures.made in (made.0, made.1)

pub returns-in-Ok-clause-bytes : goal.returns-in-Ok-clause-bytes
returns-in-Ok-clause-bytes g c honest =
    let view = g.D.Disk.view in
    let store = c.in-Ok.store in
    let (is, is_synced) = c.in-Ok.ensures.bytes (subst IsTrue (sym c.in_ok-disk.ensures.honest) honest) in
    (on_zeros c.args.settings (view c.in_ok-disk.disk) store.store (view store.disk).seen (search rules) is, is_synced)

pub returns-in-Err-clause-refused : goal.returns-in-Err-clause-refused
returns-in-Err-clause-refused g c file =
    let refused = c.in-Err.refused in
    let late = made_late c.args.settings (g.D.Disk.view c.in_ok-disk.disk).size _ _ c.requires.good (search rules) c.in-Err.ensures.refused in
    of_late file (g.D.Disk.failed c.in_ok-disk.disk) (g.D.Disk.failed refused.1) refused.0 c.with_reason.result late c.reason-reason.result c.reason-reason.ensures c.with_reason.ensures
