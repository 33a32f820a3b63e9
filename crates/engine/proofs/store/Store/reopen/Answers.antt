use Rattle.std.proofs.Common.{subst}
use Rattle.engine.specs.Opened.{IsOpenedOn}
use Rattle.engine.specs.Refusal.{is_crew}
use Rattle.engine.proofs.store.Store.reopen.Goals as goal

pub returns : goal.returns
returns g c = subst (λ d. IsOpenedOn g.D.Disk.view g.D.Disk.failed (is_crew c.args.crew) d c.open.result) c.close.ensures c.open.ensures
