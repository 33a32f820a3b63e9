use Rattle.std.proofs.Common.{arith}
use Rattle.flush_log.proofs.FitLemmas.{are_sized}
use Rattle.engine.proofs.store.Store.most_ahead.Goals as goal

pub returns-clause-few : goal.returns-clause-few
returns-clause-few g c = rw (← c.self.view_is) (
    let count = (are_sized c.self.inside.settings c.self.invariant.sound.is.good).least_count in
    let most = c.max.ensures in
    omega (arith, count, most))
