use Rattle.std.proofs.Common.{◌≡◌, ◌≢◌, ◌+◌, ◌-◌, ◌<◌, ◌∙◌, ⊎_elim, ℕ, min, arith, inl, inr, refl, sym, ap}
use Rattle.flush_log.specs.Segments.{last_segment}
use Rattle.flush_log.specs.declared.slot.LogEnds.{LogEnds}
use Rattle.recovery.proofs.ReadBytes.{first_read, read_before, err_on, handed_on, nothing_of, reads_without_failure, reads_nothing, reads_with_fault}
use Rattle.cleaner.proofs.LiveLemmas.{new-live, no-live}
use Rattle.cleaner.proofs.NextReading.{new-reading, new-limit, new-fault}
use Rattle.cleaner.proofs.PlanLemmas.{nothing-refused, clean-fault, log-refused, more_in_use}
use Rattle.cleaner.proofs.cleaning.read_for_cleans.Goals as goal

pub returns-then-ends-last-clause-err : goal.returns-then-ends-last-clause-err
returns-then-ends-last-clause-err g c =
    let s = c.args.format.now.settings in
    let (file, is) = first_read (g.D.Disk.view c.args.disk.now) (g.met.D.Disk.lawful c.args.disk.now) in
    let one = c.if-ends-last.true ∙ c.last_segment-last.ensures in
    (file, is, λ st same version. inl (nothing-refused s file st (ap (λ (u : LogEnds). u.head) same ∙ one ∙ sym (ap (λ (u : LogEnds). last_segment s u.tail) same))))

pub returns-in_err-pages-clause-err : goal.returns-in_err-pages-clause-err
returns-in_err-pages-clause-err g c =
    let view = g.D.Disk.view in
    let failed = g.D.Disk.failed in
    let f = c.args.format.now in
    let t = c.args.ends.now in
    let more : t.head ≢ last_segment f.settings t.tail = (λ e. c.if-ends-last.false (e ∙ sym c.last_segment-last.ensures)) in
    let (file, is) = first_read (view c.args.disk.now) (g.met.D.Disk.lawful c.args.disk.now) in
    let (now, bytes, front, state) = c.in_err-pages.ensures.read file is in (
      now,
      read_before (view c.args.disk.now) (view c.read_log.new.disk) now c.in_err-pages.ensures.only_reads.kept c.in_err-pages.ensures.only_reads.same bytes,
      λ st same version. err_on c.from_residual.result _ c.in_err-pages.field-0.0 c.from_residual.ensures.1
          (clean-fault f t now more (failed c.args.disk.now) (failed c.read_log.new.disk) st same version c.in_err-pages.field-0.0 (⊎_elim (λ wrong. inl (log-refused f now t more c.in_err-pages.field-0.0 wrong)) (λ late. inr late) state)),
    )

pub returns-clause-reading : goal.returns-clause-reading
returns-clause-reading g c =
    let view = g.D.Disk.view in
    let f = c.args.format.now in
    let t = c.args.ends.now in
    let (file, is) = first_read (view c.args.disk.now) (g.met.D.Disk.lawful c.args.disk.now) in
    let (now, bytes, front, (found, read, gathered)) = c.in_ok-pages.ensures.read file is in
    let more : t.head ≢ last_segment f.settings t.tail = (λ e. c.if-ends-last.false (e ∙ sym c.last_segment-last.ensures)) in
    let less = more_in_use f t c.requires.checked c.requires.ends more in
    let last = c.last_segment-last.ensures in
    let count = c.min.ensures in
    new-reading (view c.read_log.new.disk) f t now _ found _ c.new.result bytes read (omega (arith, less, last, count)) (c.new.ensures f found c.requires.checked gathered)

pub returns-clause-limit : goal.returns-clause-limit
returns-clause-limit g c =
    let view = g.D.Disk.view in
    let f = c.args.format.now in
    let t = c.args.ends.now in
    let more : t.head ≢ last_segment f.settings t.tail = (λ e. c.if-ends-last.false (e ∙ sym c.last_segment-last.ensures)) in
    let (file, is) = first_read (view c.args.disk.now) (g.met.D.Disk.lawful c.args.disk.now) in
    let (now, bytes, front, (found, read, gathered)) = c.in_ok-pages.ensures.read file is in
    new-limit (view c.read_log.new.disk) f t now _ found _ (λ n. (n ≡ t.head + min c.args.count (last_segment f.settings t.tail - t.head)) × (t.head < last_segment f.settings t.tail)) c.new.result
    (ap (λ (n : ℕ). t.head + n) (c.min.ensures ∙ ap (λ (n : ℕ). min c.args.count (n - t.head)) c.last_segment-last.ensures), more_in_use f t c.requires.checked c.requires.ends more) (c.new.ensures f found c.requires.checked gathered)

pub returns-clause-err : goal.returns-clause-err
returns-clause-err g c =
    let view = g.D.Disk.view in
    let failed = g.D.Disk.failed in
    let f = c.args.format.now in
    let t = c.args.ends.now in
    let more : t.head ≢ last_segment f.settings t.tail = (λ e. c.if-ends-last.false (e ∙ sym c.last_segment-last.ensures)) in
    let (file, is) = first_read (view c.args.disk.now) (g.met.D.Disk.lawful c.args.disk.now) in
    let (now, bytes, front, (found, read, gathered)) = c.in_ok-pages.ensures.read file is in (
      now,
      read_before (view c.args.disk.now) (view c.read_log.new.disk) now c.in_ok-pages.ensures.only_reads.kept c.in_ok-pages.ensures.only_reads.same bytes,
      λ st same version. new-fault f t now more (failed c.args.disk.now) (failed c.read_log.new.disk) found read st same version _ c.new.result (c.new.ensures f found c.requires.checked gathered),
    )

pub returns-then-ends-last-clause-live : goal.returns-then-ends-last-clause-live
returns-then-ends-last-clause-live g c =
    let (file, is) = first_read (g.D.Disk.view c.args.disk.now) (g.met.D.Disk.lawful c.args.disk.now) in
    (file, is, inl refl)

pub returns-in_err-pages-clause-live : goal.returns-in_err-pages-clause-live
returns-in_err-pages-clause-live g c =
    let view = g.D.Disk.view in
    let f = c.args.format.now in
    let t = c.args.ends.now in
    let (file, is) = first_read (view c.args.disk.now) (g.met.D.Disk.lawful c.args.disk.now) in
    let (now, bytes, front, state) = c.in_err-pages.ensures.read file is in (
      now,
      read_before (view c.args.disk.now) (view c.read_log.new.disk) now c.in_err-pages.ensures.only_reads.kept c.in_err-pages.ensures.only_reads.same bytes,
      handed_on c.from_residual.result _ _ c.in_err-pages.field-0.0 c.from_residual.ensures.1
          (⊎_elim (λ wrong. inr (inr (no-live f t now c.in_err-pages.field-0.0 wrong))) (λ late. inr (inl late)) state),
    )

pub returns-clause-live : goal.returns-clause-live
returns-clause-live g c =
    let view = g.D.Disk.view in
    let failed = g.D.Disk.failed in
    let f = c.args.format.now in
    let t = c.args.ends.now in
    let (file, is) = first_read (view c.args.disk.now) (g.met.D.Disk.lawful c.args.disk.now) in
    let (now, bytes, front, (found, read, gathered)) = c.in_ok-pages.ensures.read file is in (
      now,
      read_before (view c.args.disk.now) (view c.read_log.new.disk) now c.in_ok-pages.ensures.only_reads.kept c.in_ok-pages.ensures.only_reads.same bytes,
      new-live f t now found read (failed c.args.disk.now) (failed c.read_log.new.disk) _ _ c.new.result (c.new.ensures f found c.requires.checked gathered),
    )

pub returns-then-ends-last-clause-reading : goal.returns-then-ends-last-clause-reading
returns-then-ends-last-clause-reading g c = tt

pub returns-then-ends-last-clause-limit : goal.returns-then-ends-last-clause-limit
returns-then-ends-last-clause-limit g c = tt

pub returns-then-ends-last-clause-only_reads : goal.returns-then-ends-last-clause-only_reads
returns-then-ends-last-clause-only_reads g c = reads_nothing g.D.Disk.view g.D.Disk.failed c.args.disk.now _

pub returns-in_err-pages-clause-reading : goal.returns-in_err-pages-clause-reading
returns-in_err-pages-clause-reading g c = nothing_of c.from_residual.result _ c.from_residual.ensures.0

pub returns-in_err-pages-clause-limit : goal.returns-in_err-pages-clause-limit
returns-in_err-pages-clause-limit g c = nothing_of c.from_residual.result _ c.from_residual.ensures.0

pub returns-in_err-pages-clause-only_reads : goal.returns-in_err-pages-clause-only_reads
returns-in_err-pages-clause-only_reads g c = reads_with_fault g.D.Disk.view g.D.Disk.failed c.args.disk.now c.read_log.new.disk c.from_residual.result c.in_err-pages.field-0.0 c.from_residual.ensures.1 c.in_err-pages.ensures.only_reads

pub returns-clause-only_reads : goal.returns-clause-only_reads
returns-clause-only_reads g c =
    let ok = c.in_ok-pages.ensures.only_reads in
    reads_without_failure g.D.Disk.view g.D.Disk.failed c.args.disk.now c.read_log.new.disk c.new.result ok.kept ok.same ok.counted
