use Rattle.std.proofs.Common.{◌<◌, ◌≤◌, List, ℕ, inl, inr, refl, ap, ◌∙◌, arith}
use Rattle.std.proofs.lemmas.Result.{err_from_is_err_and}
use Rattle.keys.specs.Limits.{first_bad_field}
use Rattle.keys.specs.declared.fault.Fault.TheVariants.{BadSettings}
use Rattle.flush_log.specs.Overlay.{overlay}
use Rattle.flush_log.specs.Segments.{disk_size}
use Rattle.flush_log.proofs.ViewLemmas.{counted_failed}
use Rattle.engine.proofs.CreateLemmas.{not_refused, new-fits, refused_by_field, too_small, none_refused}
use Rattle.engine.specs.Hidden.{IsLeftHiding}
use Rattle.engine.proofs.HiddenStores.{none_leaves}
use Rattle.engine.proofs.RefusedCalls.{handed_on_is}
use Rattle.engine.proofs.store.creation.make.Goals as goal

-- ---- refused

pub returns-in_err-check-clause-refused : goal.returns-in_err-check-clause-refused
returns-in_err-check-clause-refused g c =
    let fault = c.in_err-check.field-0.0 in
    refused_by_field c.args.settings.now _ tt c.check.result fault c.from_residual.result _ c.check.ensures c.in_err-check.was (handed_on_is c.from_residual.result fault c.from_residual.ensures.1)

pub returns-then-len-disk_size-clause-refused : goal.returns-then-len-disk_size-clause-refused
returns-then-len-disk_size-clause-refused g c =
    let s = c.args.settings.now in
    let size = (g.D.Disk.view c.args.disk.now).size in
    let good = not_refused (λ field. BadSettings field) (first_bad_field s) c.check.result tt _ c.check.ensures c.in_ok-check.was in
    let less : size < disk_size s = omega (arith, c.if-len-disk_size.true, c.len.ensures, c.disk_size.ensures) in
    rw (too_small s size good less) refl

pub returns-in_err-tree-clause-refused : goal.returns-in_err-tree-clause-refused
returns-in_err-tree-clause-refused g c =
    let s = c.args.settings.now in
    let size = (g.D.Disk.view c.args.disk.now).size in
    let good = not_refused (λ field. BadSettings field) (first_bad_field s) c.check.result tt _ c.check.ensures c.in_ok-check.was in
    let room : disk_size s ≤ size = omega (arith, c.if-len-disk_size.false, c.len.ensures, c.disk_size.ensures) in
    let p = err_from_is_err_and c.from_residual-in_err-tree.result c.from_residual-in_err-tree.ensures.1 in
    rw (none_refused s size good room, p.1, p.2) (inl refl)

pub returns-in_err-write_hidden-clause-refused : goal.returns-in_err-write_hidden-clause-refused
returns-in_err-write_hidden-clause-refused g c =
    let s = c.args.settings.now in
    let size = (g.D.Disk.view c.args.disk.now).size in
    let good = not_refused (λ field. BadSettings field) (first_bad_field s) c.check.result tt _ c.check.ensures c.in_ok-check.was in
    let room : disk_size s ≤ size = omega (arith, c.if-len-disk_size.false, c.len.ensures, c.disk_size.ensures) in
    let p = err_from_is_err_and c.from_residual-in_err-write_hidden.result c.from_residual-in_err-write_hidden.ensures.1 in
    rw (none_refused s size good room, p.1, p.2) (inr (refl, counted_failed _ _ c.in_err-write_hidden.ensures.failed))

-- ---- made

pub write_hidden-requires-clause-room : goal.write_hidden-requires-clause-room
write_hidden-requires-clause-room g c =
    let s = c.args.settings.now in
    let good = not_refused (λ field. BadSettings field) (first_bad_field s) c.check.result tt _ c.check.ensures c.in_ok-check.was in
    new-fits s c.new_bytes.result c.len.result c.disk_size.result _ good c.new_bytes.ensures c.if-len-disk_size.false c.len.ensures c.disk_size.ensures

pub returns-clause-refused : goal.returns-clause-refused
returns-clause-refused g c =
    let s = c.args.settings.now in
    let size = (g.D.Disk.view c.args.disk.now).size in
    let good = not_refused (λ field. BadSettings field) (first_bad_field s) c.check.result tt _ c.check.ensures c.in_ok-check.was in
    let room : disk_size s ≤ size = omega (arith, c.if-len-disk_size.false, c.len.ensures, c.disk_size.ensures) in
    rw (none_refused s size good room) tt

pub returns-clause-bytes : goal.returns-clause-bytes
returns-clause-bytes g c honest =
    (c.in_ok-write_hidden.ensures.written honest ∙ ap (λ (b : List ℕ). overlay (g.D.Disk.view c.args.disk.now).seen 0 b) c.new_bytes.ensures, c.in_ok-write_hidden.ensures.is_synced honest)

-- ---- crashes: nothing was called

pub returns-in_err-check-clause-crash : goal.returns-in_err-check-clause-crash
returns-in_err-check-clause-crash g c is_synced =
    let old = g.D.Disk.view c.args.disk.now in
    none_leaves old (IsLeftHiding old.seen) (g.met.D.Disk.lawful c.args.disk.now is_synced.honest) is_synced (inl refl)

pub returns-then-len-disk_size-clause-crash : goal.returns-then-len-disk_size-clause-crash
returns-then-len-disk_size-clause-crash g c is_synced =
    let old = g.D.Disk.view c.args.disk.now in
    none_leaves old (IsLeftHiding old.seen) (g.met.D.Disk.lawful c.args.disk.now is_synced.honest) is_synced (inl refl)

pub returns-in_err-tree-clause-crash : goal.returns-in_err-tree-clause-crash
returns-in_err-tree-clause-crash g c is_synced =
    let old = g.D.Disk.view c.args.disk.now in
    none_leaves old (IsLeftHiding old.seen) (g.met.D.Disk.lawful c.args.disk.now is_synced.honest) is_synced (inl refl)
