use Rattle.std.proofs.Common.{Err, sym, subst}
use Rattle.mapping.specs.Levels.{contents}
use Rattle.engine.specs.Copies.{HoldsSomeStore, IsFilling}
use Rattle.engine.proofs.store.Store.fill_new.Goals as goal

pub returns-in-Ok : goal.returns-in-Ok
returns-in-Ok g c = c.in-Ok.ensures.filling

pub returns-in-Err : goal.returns-in-Err
returns-in-Err g c =
    let view = g.E.Disk.view in
    let fresh = c.args.fresh in
    subst (λ (d : g.row.E.Denot). IsFilling view g.E.Disk.failed fresh.settings (contents c.args.self.now.store.tree) fresh.disk (view fresh.disk).seen HoldsSomeStore (Err (c.in-Err.fault, d)))
    (sym c.close.ensures) c.in-Err.ensures.filling
