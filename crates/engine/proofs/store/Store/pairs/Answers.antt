use Rattle.std.proofs.Common.{rules}
use Rattle.engine.proofs.store.Store.pairs.Goals as goal

pub returns : goal.returns
returns g c = rw (← c.self.view_is) (rw (← c.self.invariant.counted) (search rules))
