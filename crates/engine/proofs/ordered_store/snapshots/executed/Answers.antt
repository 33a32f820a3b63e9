use Rattle.std.proofs.Common.{arith}
use Rattle.replies.proofs.InTurnLemmas.{replies_on, map_on}
use Rattle.engine.proofs.ordered_store.snapshots.executed.Goals as goal

pub loop-command-preserved : goal.loop-command-preserved
loop-command-preserved c =
    let within = c.loop-command-test.true in
    let at = c.loop-command.command-index in
    record {
      replies = replies_on c.args.map c.args.commands.now at c.command-item.result c.loop-command.map _ _ (omega (arith, within)) c.command-item.is c.loop-command.invariant.map c.loop-command.invariant.replies c.in_ok-execute_next.ensures.replies;
      map = map_on c.args.map c.args.commands.now at c.command-item.result c.loop-command.map _ (omega (arith, within)) c.command-item.is c.loop-command.invariant.map c.in_ok-execute_next.ensures.map;
    }
