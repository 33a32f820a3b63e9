use Rattle.std.proofs.Common.{inr, refl}
use Rattle.keys.specs.declared.fault.Fault.TheVariants.{Device}
use Rattle.flush_log.proofs.ViewLemmas.{counted_failed}
use Rattle.recovery.specs.Recovered.{IsLate}
use Rattle.recovery.proofs.ReadBytes.{IsUncounted, read_after, err_on, nothing_of}
use Rattle.recovery.proofs.read_bytes.read.Goals as goal

pub returns-in_err-read_at-clause-only_reads : goal.returns-in_err-read_at-clause-only_reads
returns-in_err-read_at-clause-only_reads g c = record {
  kept = c.read_at.ensures.kept;
  same = c.read_at.ensures.same;
  counted = nothing_of c.from_residual.result _ c.from_residual.ensures.0;
  uncounted = err_on c.from_residual.result (IsUncounted (g.D.Disk.failed c.args.disk.now) (g.D.Disk.failed c.read_at.new.self)) Device c.from_residual.ensures.1 (λ other. absurd (other refl));
}

pub returns-in_err-read_at-clause-device : goal.returns-in_err-read_at-clause-device
returns-in_err-read_at-clause-device g c =
    err_on c.from_residual.result (IsLate (g.D.Disk.failed c.args.disk.now) (g.D.Disk.failed c.read_at.new.self)) Device c.from_residual.ensures.1
    (inr (refl, counted_failed (g.D.Disk.failed c.args.disk.now) (g.D.Disk.failed c.read_at.new.self) c.in_err-read_at.ensures.failed))

pub returns-in_err-read_at-clause-stays : goal.returns-in_err-read_at-clause-stays
returns-in_err-read_at-clause-stays g c file is = read_after (g.D.Disk.view c.args.disk.now) (g.D.Disk.view c.read_at.new.self) file c.read_at.ensures.kept c.read_at.ensures.same is

pub returns-in_err-read_at-clause-bytes : goal.returns-in_err-read_at-clause-bytes
returns-in_err-read_at-clause-bytes g c file is = nothing_of c.from_residual.result _ c.from_residual.ensures.0

pub returns-clause-only_reads : goal.returns-clause-only_reads
returns-clause-only_reads g c = record { kept = c.read_at.ensures.kept; same = c.read_at.ensures.same; counted = c.in_ok-read_at.ensures.failed; uncounted = tt }

pub returns-clause-device : goal.returns-clause-device
returns-clause-device g c = tt

pub returns-clause-stays : goal.returns-clause-stays
returns-clause-stays g c file is = read_after (g.D.Disk.view c.args.disk.now) (g.D.Disk.view c.read_at.new.self) file c.read_at.ensures.kept c.read_at.ensures.same is
