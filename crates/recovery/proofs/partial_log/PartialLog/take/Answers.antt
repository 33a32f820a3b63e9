use Rattle.std.proofs.Common.{◌∙◌, map, sym}
use Rattle.recovery.specs.Scan.{held_segment, scanned}
use Rattle.recovery.proofs.SoFarLemmas.{stays-broken, scans-made}
use Rattle.recovery.proofs.partial_log.PartialLog.take.Goals as goal

pub returns-then-is_some-clause-ok : goal.returns-then-is_some-clause-ok
returns-then-is_some-clause-ok g c w state h =
    stays-broken w c.args.self.now.gathering c.args.self.now.fault state (map (scanned c.args.format.now) (map held_segment c.args.segments.items)) (sym c.is_some.ensures ∙ c.if-is_some.true) h

pub returns-in-Ok-clause-ok : goal.returns-in-Ok-clause-ok
returns-in-Ok-clause-ok g c w state h =
    let s = c.args.format.now in
    let gs = map held_segment c.args.segments.items in
    c.gather.ensures.ok w state (map (scanned s) gs) (scans-made s c.new-work.result.format gs _ c.new-work.ensures c.in-Ok.ensures.made) h
