use Rattle.std.proofs.Common.{◌-◌, ◌∙◌}
use Rattle.flush_log.specs.Reading.{read_earlier, log_between}
use Rattle.flush_log.specs.Segments.{last_segment}
use Rattle.recovery.specs.Gathered.{IsPartialLog}
use Rattle.recovery.specs.Recovered.{IsLate}
use Rattle.recovery.proofs.ReadBytes.{late_since, err_on, not_ok, late_by_memory, reads_without_failure, reads_with_fault, reads_then}
use Rattle.recovery.proofs.ReadLog.{ReadResult, last-taken}
use Rattle.recovery.proofs.log_reading.read_segments.Goals as goal

-- the segments before the last one were not read
pub returns-in_err-read_earlier-clause-read : goal.returns-in_err-read_earlier-clause-read
returns-in_err-read_earlier-clause-read g c w file is none =
    let (now, bytes, front, state) = c.in_err-read_earlier.ensures.read w file is none in (
      now,
      bytes,
      front,
      not_ok c.from_residual.result _ c.in_err-read_earlier.field-0.0 c.from_residual.ensures.1,
    )

pub returns-in_err-read_earlier-clause-err : goal.returns-in_err-read_earlier-clause-err
returns-in_err-read_earlier-clause-err g c =
    let failed = g.D.Disk.failed in
    err_on c.from_residual.result (IsLate (failed c.args.disk.now) (failed c.read_earlier.new.disk)) c.in_err-read_earlier.field-0.0
    c.from_residual.ensures.1 c.in_err-read_earlier.ensures.err

pub returns-in_err-read_earlier-clause-only_reads : goal.returns-in_err-read_earlier-clause-only_reads
returns-in_err-read_earlier-clause-only_reads g c = reads_with_fault g.D.Disk.view g.D.Disk.failed c.args.disk.now c.read_earlier.new.disk c.from_residual.result c.in_err-read_earlier.field-0.0 c.from_residual.ensures.1 c.in_err-read_earlier.ensures.only_reads

-- the last one was not
pub returns-in_err-segments-clause-read : goal.returns-in_err-segments-clause-read
returns-in_err-segments-clause-read g c w file is none =
    let (now, bytes, front, state) = c.in_ok-read_earlier.ensures.read w file is none in
    let (then, got, stays, rest) = c.in_err-segments.ensures.read now bytes in (
      then,
      got,
      stays ∙ front,
      not_ok c.from_residual-in_err-segments.result _ c.in_err-segments.field-0.0 c.from_residual-in_err-segments.ensures.1,
    )

pub returns-in_err-segments-clause-err : goal.returns-in_err-segments-clause-err
returns-in_err-segments-clause-err g c =
    let failed = g.D.Disk.failed in
    err_on c.from_residual-in_err-segments.result (IsLate (failed c.args.disk.now) (failed c.read_last.new.disk)) c.in_err-segments.field-0.0 c.from_residual-in_err-segments.ensures.1
    (late_since _ _ _ _ c.in_ok-read_earlier.ensures.only_reads.counted c.in_err-segments.ensures.err)

pub returns-in_err-segments-clause-only_reads : goal.returns-in_err-segments-clause-only_reads
returns-in_err-segments-clause-only_reads g c =
    let earlier = c.in_ok-read_earlier.ensures.only_reads in
    reads_with_fault g.D.Disk.view g.D.Disk.failed c.args.disk.now c.read_last.new.disk c.from_residual-in_err-segments.result c.in_err-segments.field-0.0 c.from_residual-in_err-segments.ensures.1
    (reads_then g.D.Disk.view g.D.Disk.failed c.args.disk.now c.read_earlier.new.disk c.read_last.new.disk _ earlier.kept earlier.same earlier.counted c.in_err-segments.ensures.only_reads)

-- all were read
pub returns-clause-read : goal.returns-clause-read
returns-clause-read g c w file is none =
    let format = c.args.format.now in
    let t = c.args.ends.now in
    let (now, bytes, front, state) = c.in_ok-read_earlier.ensures.read w file is none in
    let (then, got, stays, all) = c.in_ok-segments.ensures.read now bytes in
    let earlier : ReadResult = read_earlier format now t.head (last_segment format.settings t.tail - t.head) in
    (then, got, stays ∙ front, last-taken c.take.result (IsPartialLog w c.take.new.self.gathering c.take.new.self.fault) _ (log_between format then t.head t.tail) all (c.take.ensures.ok w earlier state))

pub returns-clause-err : goal.returns-clause-err
returns-clause-err g c = let failed = g.D.Disk.failed in late_by_memory c.take.result (failed c.args.disk.now) (failed c.read_last.new.disk) c.take.ensures.err

pub returns-clause-only_reads : goal.returns-clause-only_reads
returns-clause-only_reads g c =
    let earlier = c.in_ok-read_earlier.ensures.only_reads in
    let ok = reads_then g.D.Disk.view g.D.Disk.failed c.args.disk.now c.read_earlier.new.disk c.read_last.new.disk _ earlier.kept earlier.same earlier.counted c.in_ok-segments.ensures.only_reads in
    reads_without_failure g.D.Disk.view g.D.Disk.failed c.args.disk.now c.read_last.new.disk c.take.result ok.kept ok.same ok.counted
