use Rattle.engine.proofs.ClaimOpened.{opened-fine}
use Rattle.engine.proofs.ordered_store.by_pages.StoreOrderedStore.open.Goals as goal

pub returns-clause-fine : goal.returns-clause-fine
returns-clause-fine g c = opened-fine g.D.Disk.view c.open.result c.open.ensures.fine c.open.ensures.sound
