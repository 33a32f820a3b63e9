use Rattle.std.proofs.Common.{IsTrue, refl, inl, sym, subst}
use Rattle.flush_log.proofs.SameLemmas.{settled_still, leaves_the_same}
use Rattle.recovery.specs.InStep.{IsInStep}
use Rattle.recovery.proofs.ReadBytes.{read_before, handed_on, err_on}
use Rattle.cleaner.proofs.DoneLemmas.{fault-since, written-since, crash-since, unwritten-since}
use Rattle.cleaner.proofs.NextReading.{first-has}
use Rattle.cleaner.proofs.cleaning.clean.Goals as goal

pub returns-in_err-reading-clause-read : goal.returns-in_err-reading-clause-read
returns-in_err-reading-clause-read g c =
    let (file, is, state) = c.in_err-reading.ensures.err in
    (file, is, λ st same version. handed_on c.from_residual.result _ _ c.in_err-reading.field-0.0 c.from_residual.ensures.1 (state st same version))

pub returns-in_err-reading-clause-crash : goal.returns-in_err-reading-clause-crash
returns-in_err-reading-clause-crash g c is_synced st same version step =
    let view = g.D.Disk.view in
    leaves_the_same (view c.args.disk.now) (view c.read_for_cleans.new.disk) _ (g.met.D.Disk.lawful c.args.disk.now is_synced.honest) (c.in_err-reading.ensures.only_reads.same is_synced.honest) is_synced (inl refl)

pub returns-in_err-reading-clause-unwritten : goal.returns-in_err-reading-clause-unwritten
returns-in_err-reading-clause-unwritten g c honest st same version = err_on c.from_residual.result _ c.in_err-reading.field-0.0 c.from_residual.ensures.1 (inl (c.in_err-reading.ensures.only_reads.same honest))

pub clean_by-requires-clause-has : goal.clean_by-requires-clause-has
clean_by-requires-clause-has g c = let (limit, more) = c.in_ok-reading.ensures.limit in first-has _ _ _ limit more

pub returns-clause-read : goal.returns-clause-read
returns-clause-read g c =
    let view = g.D.Disk.view in
    let failed = g.D.Disk.failed in
    let (file, is, state) = c.clean_by.ensures.read in (
      file,
      read_before (view c.args.disk.now) (view c.read_for_cleans.new.disk) file c.in_ok-reading.ensures.only_reads.kept c.in_ok-reading.ensures.only_reads.same is,
      λ st same version. fault-since c.args.format.now.settings st c.clean_by.result _ file (failed c.args.disk.now) (failed c.read_for_cleans.new.disk) (failed c.clean_by.new.disk) c.in_ok-reading.ensures.only_reads.counted (state st same version),
    )

pub returns-clause-written : goal.returns-clause-written
returns-clause-written g c honest st same version =
    let view = g.D.Disk.view in
    let still = c.in_ok-reading.ensures.only_reads.same honest in
    written-since c.args.format.now.settings st c.clean_by.result (view c.args.disk.now) (view c.read_for_cleans.new.disk) (view c.clean_by.new.disk) still
    (c.clean_by.ensures.written (subst IsTrue (sym c.in_ok-reading.ensures.only_reads.kept.honest) honest) st same version)

pub returns-clause-crash : goal.returns-clause-crash
returns-clause-crash g c is_synced st same version step =
    let view = g.D.Disk.view in
    let old = view c.args.disk.now in
    let mid = view c.read_for_cleans.new.disk in
    let still = c.in_ok-reading.ensures.only_reads.same is_synced.honest in
    crash-since c.args.format.now.settings st old mid (view c.clean_by.new.disk) still
    (c.clean_by.ensures.crash (settled_still old mid c.in_ok-reading.ensures.only_reads.kept still is_synced) st same version (subst (λ f. IsInStep c.args.format.now.settings st f) (sym still.seen) step))

pub returns-clause-unwritten : goal.returns-clause-unwritten
returns-clause-unwritten g c honest st same version =
    let view = g.D.Disk.view in
    let still = c.in_ok-reading.ensures.only_reads.same honest in
    unwritten-since c.args.format.now.settings st c.clean_by.result (view c.args.disk.now) (view c.read_for_cleans.new.disk) (view c.clean_by.new.disk) still
    (c.clean_by.ensures.unwritten (subst IsTrue (sym c.in_ok-reading.ensures.only_reads.kept.honest) honest) st same version)
