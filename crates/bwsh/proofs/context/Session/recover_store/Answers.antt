use Rattle.bwsh.proofs.StoreLemmas.{Opens-found, IsUnopened-found}
use Rattle.bwsh.proofs.context.Session.recover_store.Goals as goal

pub returns-in-Err : goal.returns-in-Err
returns-in-Err g c =
    let (file, is, fault) = c.in-Err.ensures.read c.args.self.now.calls.crew_in_range in
    (file, IsUnopened-found file _ _ c.in-Err.refused.0 _ fault c.store_fault.ensures)

pub returns-in-Ok : goal.returns-in-Ok
returns-in-Ok g c =
    let (file, is, found) = c.in-Ok.ensures.read c.args.self.now.calls.crew_in_range in
    (file, Opens-found g.D.Disk.view file (g.D.Disk.view c.args.disk) c.in-Ok.store found c.in-Ok.ensures.fine c.in-Ok.ensures.kept is.honest c.in-Ok.ensures.seen)
