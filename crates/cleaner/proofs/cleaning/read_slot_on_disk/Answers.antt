use Rattle.std.proofs.Common.{◌∙◌, arith, subst}
use Rattle.flush_log.specs.Overlay.{overlay}
use Rattle.flush_log.specs.Slot.{slot_place}
use Rattle.recovery.specs.Recovered.{IsReadOf}
use Rattle.recovery.proofs.ReadBytes.{reads_with_fault}
use Rattle.cleaner.proofs.PlanLemmas.{slot-read, slot-beside}
use Rattle.cleaner.proofs.cleaning.read_slot_on_disk.Goals as goal

pub returns-clause-read : goal.returns-clause-read
returns-clause-read g c file is =
    let n = c.args.sequence in
    let buf = c.read.new.buf in
    let place = c.slot_place.ensures in
    let whole = is.whole in
    let room = c.requires in
    let long = c.read.auto.buf in (
      overlay file (slot_place n) buf,
      subst (λ at. IsReadOf (g.D.Disk.view c.read.new.disk) (overlay file at buf)) place (c.in_ok-read.ensures.bytes file is),
      slot-beside n file buf (omega (arith, whole, room)) (omega (arith, long)),
      c.slot_in.ensures.said ∙ slot-read n file buf (omega (arith, whole, room)) (omega (arith, long)),
    )

pub returns-in_err-read-clause-only_reads : goal.returns-in_err-read-clause-only_reads
returns-in_err-read-clause-only_reads g c = reads_with_fault g.D.Disk.view g.D.Disk.failed c.args.disk.now c.read.new.disk c.from_residual.result c.in_err-read.field-0.0 c.from_residual.ensures.1 c.in_err-read.ensures.only_reads

pub returns-clause-only_reads : goal.returns-clause-only_reads
returns-clause-only_reads g c =
    let ok = c.in_ok-read.ensures.only_reads in
    record { kept = ok.kept; same = ok.same; counted = ok.counted; uncounted = tt }
