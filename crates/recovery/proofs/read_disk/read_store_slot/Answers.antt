use Rattle.std.proofs.Common.{◌≡◌, ◌⊎◌, Ok, Err, ◌∙◌, arith, inr}
use Rattle.flush_log.specs.Overlay.{overlay}
use Rattle.flush_log.specs.Slot.{store_slot}
use Rattle.recovery.specs.Recovered.{IsLate}
use Rattle.recovery.proofs.ReadBytes.{as_read, handed_on, reads_without_failure, reads_with_fault}
use Rattle.recovery.proofs.ReadSlots.{slots-settings, slots-read}
use Rattle.recovery.proofs.read_disk.read_store_slot.Goals as goal

pub returns-in_err-read-clause-read : goal.returns-in_err-read-clause-read
returns-in_err-read-clause-read g c file is settings =
    let s = c.args.settings.now in (
      file,
      c.read.ensures.stays file is,
      settings,
      handed_on c.from_residual.result (λ t. store_slot s file ≡ Ok t) (λ fault. (store_slot s file ≡ Err fault) ⊎ IsLate (g.D.Disk.failed c.args.disk.now) (g.D.Disk.failed c.read.new.disk) fault)
          c.in_err-read.field-0.0 c.from_residual.ensures.1 (inr c.in_err-read.ensures.device),
    )

pub returns-clause-read : goal.returns-clause-read
returns-clause-read g c file is settings =
    let s = c.args.settings.now in
    let slots = c.read.new.buf in
    let now = overlay file 128 slots in
    let whole = is.whole in
    let within = c.requires.within in
    let long = c.read.auto.buf in (
      now,
      c.in_ok-read.ensures.bytes file is,
      slots-settings file slots (omega (arith, whole, within)) (omega (arith, long)) ∙ settings,
      as_read (store_slot s now) (IsLate (g.D.Disk.failed c.args.disk.now) (g.D.Disk.failed c.read.new.disk)) c.slot_in.result
          (c.slot_in.ensures.read now (slots-read file slots (omega (arith, whole, within)) (omega (arith, long)))),
    )

pub returns-in_err-read-clause-only_reads : goal.returns-in_err-read-clause-only_reads
returns-in_err-read-clause-only_reads g c = reads_with_fault g.D.Disk.view g.D.Disk.failed c.args.disk.now c.read.new.disk c.from_residual.result c.in_err-read.field-0.0 c.from_residual.ensures.1 c.in_err-read.ensures.only_reads

pub returns-clause-only_reads : goal.returns-clause-only_reads
returns-clause-only_reads g c =
    let ok = c.in_ok-read.ensures.only_reads in
    reads_without_failure g.D.Disk.view g.D.Disk.failed c.args.disk.now c.read.new.disk c.slot_in.result ok.kept ok.same ok.counted
