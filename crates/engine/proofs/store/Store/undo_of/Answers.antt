use Rattle.std.proofs.Common.{◌<◌, length, arith}
use Rattle.mapping.specs.Levels.{contents}
use Rattle.engine.proofs.UndoAdmitted.{next_undo}
use Rattle.engine.proofs.store.Store.undo_of.Goals as goal

pub loop-command-preserved : goal.loop-command-preserved
loop-command-preserved g c =
    let m = contents c.args.self.now.store.tree in
    let cs = c.args.commands.now in
    let at = c.loop-command.command-index in
    let within : at < length cs = omega arith in
    let added = c.in_ok-push_few.ensures.added in
    record {
      made = next_undo m cs at c.command-item.result c.loop-command.undo.items within c.command-item.is c.loop-command.invariant.made c.push_few.new.undo.items added.0;
      few = added.1;
    }
