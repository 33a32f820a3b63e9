use Rattle.std.proofs.lemmas.Result.{err_from_is_err_and}
use Rattle.engine.proofs.RefusedCalls.{bad_crew_no_device}
use Rattle.engine.proofs.StepDone.{admitted_without_device, refusal_never}
use Rattle.engine.proofs.ordered_store.snapshots.SnapshotStoreOrderedStoreSnapshotDisk.batch.Goals as goal

pub returns-in_err-admit_crew-clause-never : goal.returns-in_err-admit_crew-clause-never
returns-in_err-admit_crew-clause-never g c =
    let p = err_from_is_err_and c.from_residual.result c.from_residual.ensures.1 in
    rw (p.1, p.2, c.in_err-admit_crew.ensures.err.0) bad_crew_no_device

pub returns-in_err-admit-clause-never : goal.returns-in_err-admit-clause-never
returns-in_err-admit-clause-never g c =
    let p = err_from_is_err_and c.from_residual-in_err-admit.result c.from_residual-in_err-admit.ensures.1 in
    rw (p.1, p.2) (admitted_without_device _ c.admit.result tt _ (refusal_never c.self.inside.0.1.0.settings c.args.commands.now) c.admit.ensures c.in_err-admit.was)
