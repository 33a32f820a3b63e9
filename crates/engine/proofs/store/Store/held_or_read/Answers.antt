use Rattle.engine.specs.State.{IsSound}
use Rattle.engine.proofs.EarlyLemmas.{not_read, held_by, some_ahead}
use Rattle.engine.proofs.RoomLemmas.{of_some}
use Rattle.engine.proofs.store.Store.held_or_read.Goals as goal

pub read_ahead-requires-clause-some : goal.read_ahead-requires-clause-some
read_ahead-requires-clause-some g c = λ κs within. some_ahead c.args.most c.args.self.now.settings c.requires.most

pub returns-in-Some-clause-read : goal.returns-in-Some-clause-read
returns-in-Some-clause-read g c =
    let sound : IsSound g.D.Disk.view c.args.self.now = rw (← c.self.view_is) c.self.invariant.sound in
    (not_read g.D.Disk.view g.D.Disk.failed c.args.self.now sound, of_some c.args.held _ _ c.in-Some.is c.requires.held)

pub returns-in-None-clause-read : goal.returns-in-None-clause-read
returns-in-None-clause-read g c =
    held_by g.D.Disk.view g.D.Disk.failed c.args.self.now c.read_ahead.new.self c.args.most c.requires.most _ c.read_ahead.result c.read_ahead.ensures.read c.read_ahead.ensures.limit c.read_ahead.ensures.live
