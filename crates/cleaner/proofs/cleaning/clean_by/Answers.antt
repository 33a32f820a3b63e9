use Rattle.std.proofs.Common.{⊎_elim, IsTrue, arith, refl, inl, inr, sym, subst}
use Rattle.keys.specs.declared.fault.Fault.TheVariants.{Device}
use Rattle.flush_log.specs.Ends.{ends_of}
use Rattle.flush_log.proofs.SameLemmas.{settled_still, leaves_the_same}
use Rattle.flush_log.proofs.ViewLemmas.{counted_failed}
use Rattle.recovery.proofs.ReadBytes.{handed_on, err_on}
use Rattle.cleaner.specs.CleanText.{clean_frames}
use Rattle.cleaner.proofs.NextReading.{has-more, reading-after}
use Rattle.cleaner.proofs.PlanLemmas.{format_for, base_in, plan-of, more-of, failed_since, clean-planned, by_slot}
use Rattle.cleaner.proofs.DoneLemmas.{plan-crashed, plan-would, plan-written}
use Rattle.cleaner.proofs.cleaning.clean_by.Goals as goal

pub returns-in_err-commit-clause-read : goal.returns-in_err-commit-clause-read
returns-in_err-commit-clause-read g c =
    let f = c.args.format.now in
    let s = f.settings in
    let t = c.args.ends.now in
    let more = has-more c.args.format.now t c.args.reading.now.limit c.requires.has c.requires.reading.2.within in
    let (file, is, state) = c.in_err-commit.ensures.read in (
      file,
      is,
      λ st same version. handed_on c.from_residual.result _ _ c.in_err-commit.field-0.0 c.from_residual.ensures.1
          (⊎_elim (λ refused. inl (refused st same version)) (λ late. inr (more-of f t st same version more, late)) state),
    )

pub returns-in_err-commit-clause-crash : goal.returns-in_err-commit-clause-crash
returns-in_err-commit-clause-crash g c is_synced st same version step =
    let view = g.D.Disk.view in
    leaves_the_same (view c.args.disk.now) (view c.plan.new.disk) _ (g.met.D.Disk.lawful c.args.disk.now is_synced.honest) (c.in_err-commit.ensures.only_reads.same is_synced.honest) is_synced (inl refl)

pub returns-in_err-commit-clause-unwritten : goal.returns-in_err-commit-clause-unwritten
returns-in_err-commit-clause-unwritten g c honest st same version = err_on c.from_residual.result _ c.in_err-commit.field-0.0 c.from_residual.ensures.1 (inl (c.in_err-commit.ensures.only_reads.same honest))

pub write-requires-clause-planned : goal.write-requires-clause-planned
write-requires-clause-planned g c = let (file, is, (p, texts)) = c.in_ok-commit.ensures.read in (base_in c.args.format.now c.args.ends.now file, clean_frames c.args.ends.now.head p.0, p.2)

pub returns-in_err-write-clause-read : goal.returns-in_err-write-clause-read
returns-in_err-write-clause-read g c =
    let f = c.args.format.now in
    let s = f.settings in
    let t = c.args.ends.now in
    let failed = g.D.Disk.failed in
    let more = has-more c.args.format.now t c.args.reading.now.limit c.requires.has c.requires.reading.2.within in
    let counts = failed_since (failed c.args.disk.now) (failed c.plan.new.disk) (failed c.write.new.disk) c.in_ok-commit.ensures.only_reads.counted (counted_failed (failed c.plan.new.disk) (failed c.write.new.disk) c.in_err-write.ensures.failed) in
    let (file, is, (p, texts)) = c.in_ok-commit.ensures.read in (
      file,
      is,
      λ st same version. handed_on c.from_residual-in_err-write.result _ _ Device c.from_residual-in_err-write.ensures.1 (inr (more-of f t st same version more, inr (refl, counts))),
    )

pub returns-in_err-write-clause-crash : goal.returns-in_err-write-clause-crash
returns-in_err-write-clause-crash g c is_synced st same version step =
    let view = g.D.Disk.view in
    let f = c.args.format.now in
    let s = f.settings in
    let t = c.args.ends.now in
    let old = view c.args.disk.now in
    let mid = view c.plan.new.disk in
    let more = has-more c.args.format.now t c.args.reading.now.limit c.requires.has c.requires.reading.2.within in
    let (file, is, (p, texts)) = c.in_ok-commit.ensures.read in
    let q = plan-of f t file old.seen _ st same version (is.honest is_synced.honest) p in
    let still = c.in_ok-commit.ensures.only_reads.same is_synced.honest in
    plan-crashed s st _ (more-of f t st same version more) old mid (view c.write.new.disk) step q still
    (c.in_err-write.ensures.crash (base_in (format_for s st) (ends_of st) old.seen) (clean_frames st.head q.0) q.2 (settled_still old mid c.in_ok-commit.ensures.only_reads.kept still is_synced))

pub returns-in_err-write-clause-unwritten : goal.returns-in_err-write-clause-unwritten
returns-in_err-write-clause-unwritten g c honest st same version =
    let f = c.args.format.now in
    let s = f.settings in
    let t = c.args.ends.now in
    let old = g.D.Disk.view c.args.disk.now in
    let more = has-more c.args.format.now t c.args.reading.now.limit c.requires.has c.requires.reading.2.within in
    let (file, is, (p, texts)) = c.in_ok-commit.ensures.read in
    let q = plan-of f t file old.seen _ st same version (is.honest honest) p in
    err_on c.from_residual-in_err-write.result _ Device c.from_residual-in_err-write.ensures.1 (inr (refl, plan-would s st _ (more-of f t st same version more) old.seen q))

pub returns-clause-read : goal.returns-clause-read
returns-clause-read g c =
    let f = c.args.format.now in
    let s = f.settings in
    let t = c.args.ends.now in
    let more = has-more c.args.format.now t c.args.reading.now.limit c.requires.has c.requires.reading.2.within in
    let (file, is, (p, texts)) = c.in_ok-commit.ensures.read in (
      file,
      is,
      λ st same version. (_, by_slot s st file _ _ _ c.slot-next.ensures (clean-planned f t file st same version _ more p)),
    )

pub returns-clause-written : goal.returns-clause-written
returns-clause-written g c honest st same version =
    let view = g.D.Disk.view in
    let f = c.args.format.now in
    let s = f.settings in
    let t = c.args.ends.now in
    let old = view c.args.disk.now in
    let mid = view c.plan.new.disk in
    let more = has-more c.args.format.now t c.args.reading.now.limit c.requires.has c.requires.reading.2.within in
    let (file, is, (p, texts)) = c.in_ok-commit.ensures.read in
    let q = plan-of f t file old.seen _ st same version (is.honest honest) p in
    let still = c.in_ok-commit.ensures.only_reads.same honest in
    let wrote = c.in_ok-write.ensures.written (base_in (format_for s st) (ends_of st) old.seen) (clean_frames st.head q.0) q.2 (subst IsTrue (sym c.in_ok-commit.ensures.only_reads.kept.honest) honest) in
    by_slot s st old.seen _ _ _ c.slot-next.ensures (plan-written s st _ (more-of f t st same version more) old mid (view c.write.new.disk).seen q still wrote)

pub returns-clause-crash : goal.returns-clause-crash
returns-clause-crash g c is_synced st same version step =
    let view = g.D.Disk.view in
    let f = c.args.format.now in
    let s = f.settings in
    let t = c.args.ends.now in
    let old = view c.args.disk.now in
    let mid = view c.plan.new.disk in
    let more = has-more c.args.format.now t c.args.reading.now.limit c.requires.has c.requires.reading.2.within in
    let (file, is, (p, texts)) = c.in_ok-commit.ensures.read in
    let q = plan-of f t file old.seen _ st same version (is.honest is_synced.honest) p in
    let still = c.in_ok-commit.ensures.only_reads.same is_synced.honest in
    plan-crashed s st _ (more-of f t st same version more) old mid (view c.write.new.disk) step q still
    (c.write.ensures.crash (base_in (format_for s st) (ends_of st) old.seen) (clean_frames st.head q.0) q.2 (settled_still old mid c.in_ok-commit.ensures.only_reads.kept still is_synced))

pub returns-clause-reading : goal.returns-clause-reading
returns-clause-reading g c =
    let view = g.D.Disk.view in
    let f = c.args.format.now in
    let t = c.args.ends.now in
    let old = view c.args.disk.now in
    let mid = view c.plan.new.disk in
    let (before, was, reading) = c.requires.reading in
    let more = has-more f t c.args.reading.now.limit c.requires.has reading.within in
    let (file, is, (p, texts)) = c.in_ok-commit.ensures.read in
    let within = reading.within in
    let same = c.in_ok-commit.ensures.limit in
    reading-after f t old mid (view c.write.new.disk) file _ _ c.plan.new.reading c.requires.checked c.requires.ends c.requires.within more is p c.slot-next.ensures (omega (arith, within, same)) texts
    c.in_ok-commit.ensures.only_reads.kept c.in_ok-write.ensures.kept (λ honest. (c.in_ok-commit.ensures.only_reads.same honest).seen) (λ honest. c.in_ok-write.ensures.written (base_in f t file) (clean_frames t.head p.0) p.2 honest)
