use Rattle.std.proofs.Common.{arith, inl, rules}
use Rattle.flush_log.specs.SettingsBlock.{store_settings}
use Rattle.flush_log.specs.Overlay.{overlay}
use Rattle.recovery.specs.Recovered.{IsLate}
use Rattle.recovery.proofs.ReadBytes.{first_read, as_read, reads_without_failure, reads_nothing, reads_with_fault}
use Rattle.recovery.proofs.ReadBlock.{too_short, block-start}
use Rattle.recovery.proofs.read_disk.read_settings.Goals as goal

pub returns-then-len-clause-read : goal.returns-then-len-clause-read
returns-then-len-clause-read g c =
    let (file, is) = first_read (g.D.Disk.view c.args.disk.now) (g.met.D.Disk.lawful c.args.disk.now) in
    (file, is, inl (too_short file (let w = is.whole in omega arith)))

pub returns-in_err-read-clause-read : goal.returns-in_err-read-clause-read
returns-in_err-read-clause-read g c =
    let (file, is) = first_read (g.D.Disk.view c.args.disk.now) (g.met.D.Disk.lawful c.args.disk.now) in
    (file, c.read.ensures.stays file is, search rules)

pub returns-clause-read : goal.returns-clause-read
returns-clause-read g c =
    let (file, is) = first_read (g.D.Disk.view c.args.disk.now) (g.met.D.Disk.lawful c.args.disk.now) in
    let now = overlay file 0 c.read.new.buf in
    let is_now = c.in_ok-read.ensures.bytes file is in
    let long = c.read.auto.buf in (
      now,
      is_now,
      as_read (store_settings now) (IsLate (g.D.Disk.failed c.args.disk.now) (g.D.Disk.failed c.read.new.disk)) c.settings_in.result
          (c.settings_in.ensures.read now (block-start file c.read.new.buf (let w = is.whole in omega arith) (omega (arith, long))) (let w = is_now.whole in let k = c.read.ensures.only_reads.kept.size in omega (arith, w, k))),
    )

pub returns-then-len-clause-only_reads : goal.returns-then-len-clause-only_reads
returns-then-len-clause-only_reads g c = reads_nothing g.D.Disk.view g.D.Disk.failed c.args.disk.now _

pub returns-in_err-read-clause-only_reads : goal.returns-in_err-read-clause-only_reads
returns-in_err-read-clause-only_reads g c = reads_with_fault g.D.Disk.view g.D.Disk.failed c.args.disk.now c.read.new.disk c.from_residual.result c.in_err-read.field-0.0 c.from_residual.ensures.1 c.in_err-read.ensures.only_reads

pub returns-clause-only_reads : goal.returns-clause-only_reads
returns-clause-only_reads g c =
    let ok = c.in_ok-read.ensures.only_reads in
    reads_without_failure g.D.Disk.view g.D.Disk.failed c.args.disk.now c.read.new.disk c.settings_in.result ok.kept ok.same ok.counted
