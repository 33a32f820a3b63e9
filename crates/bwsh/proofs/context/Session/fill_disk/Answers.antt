use Rattle.std.proofs.Common.{sym, subst}
use Rattle.mapping.specs.Levels.{contents}
use Rattle.flush_log.specs.Disk.{IsSynced}
use Rattle.engine.specs.Copies.{HoldsCopy}
use Rattle.bwsh.proofs.StoreLemmas.{IsCopyEnd-refused}
use Rattle.bwsh.proofs.context.Session.fill_disk.Goals as goal

pub returns-in-Ok-clause-copied : goal.returns-in-Ok-clause-copied
returns-in-Ok-clause-copied g c = (let made = c.in-Ok.ensures.copy in (c.in-Ok.copy.store, made.exact, made.holds))

pub returns-in-Ok-clause-holds : goal.returns-in-Ok-clause-holds
returns-in-Ok-clause-holds g c honest =
    let view = g.E.Disk.view in
    let made = c.in-Ok.ensures.copy in
    subst (λ d. HoldsCopy c.args.settings (contents c.args.store.now.store.tree) (view d).seen × IsSynced (view d)) (sym c.close.ensures)
    ((c.in-Ok.copy.store, made.bytes honest, made.holds), c.in-Ok.ensures.is_synced honest)

pub returns-in-Err-clause-refused : goal.returns-in-Err-clause-refused
returns-in-Err-clause-refused g c =
    let disk = c.args.disk in
    IsCopyEnd-refused c.args.settings (contents c.args.store.now.store.tree) (g.E.Disk.view disk).size _ _ c.in-Err.refused.0 _ _ c.requires.good c.requires.room
    (c.in-Err.ensures.refused c.args.self.now.calls.crew_in_range) c.store_fault.ensures
