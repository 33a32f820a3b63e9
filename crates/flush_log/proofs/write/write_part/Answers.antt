use Rattle.std.proofs.Common.{◌≡◌, ℕ, ◌+◌, OnOk, ap, subst}
use Rattle.flush_log.specs.Gathering.{span_of}
use Rattle.flush_log.specs.Overlay.{overlay}
use Rattle.flush_log.proofs.GatherRuns.{leaves-span}
use Rattle.flush_log.proofs.write.write_part.Goals as goal

pub returns-clause-kept : goal.returns-clause-kept
returns-clause-kept g c = c.write_at.ensures.kept

pub returns-clause-failed : goal.returns-clause-failed
returns-clause-failed g c = c.write_at.ensures.failed

pub returns-clause-written : goal.returns-clause-written
returns-clause-written g c honest =
    let view = g.D.Disk.view in
    let part = c.args.part in
    subst (λ (n : ℕ). OnOk c.write_at.result ((view c.write_at.new.self).seen ≡ overlay (view c.args.disk.now).seen (n + part.from) c.args.bytes.now))
    c.place_of_segment.ensures (c.write_at.ensures.written honest)

pub returns-clause-crash : goal.returns-clause-crash
returns-clause-crash g c honest =
    let view = g.D.Disk.view in
    let part = c.args.part in
    leaves-span c.args.settings.now (span_of part c.args.bytes.now) (c.place_of_segment.result + part.from) (view c.args.disk.now) (view c.write_at.new.self)
    (ap (λ (n : ℕ). n + part.from) c.place_of_segment.ensures) (c.write_at.ensures.crash honest)
