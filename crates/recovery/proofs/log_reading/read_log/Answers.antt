use Rattle.std.proofs.Common.{◌≡◌, ◌⊎◌, List, Ok, Err, refl, inl, inr}
use Rattle.keys.specs.declared.fault.Fault.TheVariants.{NoMemory}
use Rattle.flush_log.specs.Reading.{Found, log_between}
use Rattle.recovery.specs.Gathered.{AreGathered}
use Rattle.recovery.specs.Recovered.{IsLate}
use Rattle.recovery.proofs.FoundWithin.{log-within}
use Rattle.recovery.proofs.ReadBytes.{handed_on, reads_without_failure, reads_nothing, reads_with_fault}
use Rattle.recovery.proofs.SoFarLemmas.{gathered-all}
use Rattle.recovery.proofs.log_reading.read_log.Goals as goal

pub returns-in_err-resize-clause-read : goal.returns-in_err-resize-clause-read
returns-in_err-resize-clause-read g c file is =
    let failed = g.D.Disk.failed c.args.disk.now in
    let format = c.args.format.now in
    let t = c.args.ends.now in (
      file,
      is,
      refl,
      handed_on c.from_residual.result (λ h. (found : List Found) × (log_between format file t.head t.tail ≡ Ok found) × AreGathered format c.args.wanted h found)
          (λ fault. (log_between format file t.head t.tail ≡ Err fault) ⊎ IsLate failed failed fault) NoMemory c.from_residual.ensures.1 (inr (inl refl)),
    )

pub returns-in_err-resize-clause-only_reads : goal.returns-in_err-resize-clause-only_reads
returns-in_err-resize-clause-only_reads g c = reads_nothing g.D.Disk.view g.D.Disk.failed c.args.disk.now c.from_residual.result

pub returns-in_err-read_segments-clause-read : goal.returns-in_err-read_segments-clause-read
returns-in_err-read_segments-clause-read g c file is =
    let failed = g.D.Disk.failed in
    let format = c.args.format.now in
    let t = c.args.ends.now in
    let (now, read, front, state) = c.in_err-read_segments.ensures.read c.args.wanted file is c.new-so_far.ensures in (
      now,
      read,
      front,
      handed_on c.from_residual-in_err-read_segments.result (λ h. (found : List Found) × (log_between format now t.head t.tail ≡ Ok found) × AreGathered format c.args.wanted h found)
          (λ fault. (log_between format now t.head t.tail ≡ Err fault) ⊎ IsLate (failed c.args.disk.now) (failed c.read_segments.new.disk) fault) c.in_err-read_segments.field-0.0
          c.from_residual-in_err-read_segments.ensures.1 (inr c.in_err-read_segments.ensures.err),
    )

pub returns-clause-read : goal.returns-clause-read
returns-clause-read g c file is =
    let failed = g.D.Disk.failed in
    let format = c.args.format.now in
    let t = c.args.ends.now in
    let (now, read, front, state) = c.in_ok-read_segments.ensures.read c.args.wanted file is c.new-so_far.ensures in (
      now,
      read,
      front,
      gathered-all format c.args.wanted (failed c.args.disk.now) (failed c.read_segments.new.disk) (log_between format now t.head t.tail) (λ found e. log-within format now t.head t.tail found e)
          c.into_gathering.result (c.into_gathering.ensures c.args.wanted (log_between format now t.head t.tail) state),
    )

pub returns-in_err-read_segments-clause-only_reads : goal.returns-in_err-read_segments-clause-only_reads
returns-in_err-read_segments-clause-only_reads g c = reads_with_fault g.D.Disk.view g.D.Disk.failed c.args.disk.now c.read_segments.new.disk c.from_residual-in_err-read_segments.result c.in_err-read_segments.field-0.0 c.from_residual-in_err-read_segments.ensures.1 c.in_err-read_segments.ensures.only_reads

pub returns-clause-only_reads : goal.returns-clause-only_reads
returns-clause-only_reads g c =
    let ok = c.in_ok-read_segments.ensures.only_reads in
    reads_without_failure g.D.Disk.view g.D.Disk.failed c.args.disk.now c.read_segments.new.disk c.into_gathering.result ok.kept ok.same ok.counted
