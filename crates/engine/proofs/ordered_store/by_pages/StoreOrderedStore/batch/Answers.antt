use Rattle.engine.specs.Refusal.{is_crew}
use Rattle.engine.proofs.StepDone.{batch_without_device}
use Rattle.engine.proofs.ordered_store.by_pages.StoreOrderedStore.batch.Goals as goal

pub returns-clause-never : goal.returns-clause-never
returns-clause-never g c =
    let old = c.args.self.now in
    let call = c.batch.ensures in
    batch_without_device old.settings old.store c.args.commands.now c.batch.result old.has_failed (is_crew c.args.crew) call.failed call.bad_crew call.refused
