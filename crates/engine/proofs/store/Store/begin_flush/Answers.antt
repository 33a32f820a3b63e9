use Rattle.std.proofs.Common.{inr, refl}
use Rattle.engine.proofs.store.Store.begin_flush.Goals as goal

pub returns-in-Err-clause-refused : goal.returns-in-Err-clause-refused
returns-in-Err-clause-refused g c = (refl, inr c.in-Err.ensures.refused)
