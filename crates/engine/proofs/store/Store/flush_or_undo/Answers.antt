use Rattle.mapping.specs.Levels.{contents}
use Rattle.engine.specs.Refusal.{is_crew}
use Rattle.engine.proofs.DurableLemmas.{given_up}
use Rattle.engine.proofs.DurableOnDisk.{ok_on_disk, tried_on_disk}
use Rattle.engine.proofs.store.Store.flush_or_undo.Goals as goal

pub returns-in-Err-clause-refused : goal.returns-in-Err-clause-refused
returns-in-Err-clause-refused g c =
    given_up g.D.Disk.view g.D.Disk.failed (is_crew c.args.crew) c.args.self.now c.flush_cleaning.new.self c.undo_after.new.self c.args.undo.now c.in-Err.fault c.undo_after.result
    (c.in-Err.ensures.refused c.requires.fine c.requires.crew) c.undo_after.ensures

pub returns-in-Err-clause-on_disk : goal.returns-in-Err-clause-on_disk
returns-in-Err-clause-on_disk g c =
    let old = c.args.self.now in
    tried_on_disk g.D.Disk.view old.settings (contents old.store.tree) old.disk old.has_failed _ (is_crew c.args.crew) c.args.undo.now c.in-Err.fault c.flush_cleaning.new.self c.undo_after.new.self c.undo_after.result
    c.undo_after.ensures c.in-Err.ensures.durable

pub returns-in-Ok-clause-on_disk : goal.returns-in-Ok-clause-on_disk
returns-in-Ok-clause-on_disk g c =
    let old = c.args.self.now in
    ok_on_disk g.D.Disk.view old.settings (contents old.store.tree) old.disk old.has_failed c.in-Ok._number _ c.flush_cleaning.new.self c.in-Ok.ensures.durable
