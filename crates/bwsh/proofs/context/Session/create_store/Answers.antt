use Rattle.bwsh.proofs.StoreLemmas.{Opens-made, IsUnopened-unmade}
use Rattle.bwsh.proofs.context.Session.create_store.Goals as goal

pub returns-in-Ok-clause-opens : goal.returns-in-Ok-clause-opens
returns-in-Ok-clause-opens g c file seen =
    let made = c.in-Ok.ensures.made in
    Opens-made c.args.self.now.asked.now.settings file c.requires.good g.D.Disk.view c.in-Ok.store (g.D.Disk.view c.args.disk) made.0 made.1 made.2 c.in-Ok.ensures.kept.0.honest seen c.in-Ok.ensures.bytes
    c.requires.room (λ honest. (g.met.D.Disk.lawful c.args.disk honest).whole)

pub returns-in-Err-clause-opens : goal.returns-in-Err-clause-opens
returns-in-Err-clause-opens g c file seen =
    IsUnopened-unmade c.args.self.now.asked.now.settings file c.requires.good (g.D.Disk.view c.args.disk).size _ _ c.in-Err.refused.0 _ _ c.requires.room c.in-Err.ensures.refused c.store_fault.ensures
