use Rattle.std.proofs.Common.{arith}
use Rattle.std.proofs.lemmas.List.{take_all}
use Rattle.replies.proofs.InTurnLemmas.{replies_on, map_on, points_on}
use Rattle.replies.proofs.in_turn.execute_in_turn.Goals as goal

pub loop-command-preserved : goal.loop-command-preserved
loop-command-preserved c =
    let within = c.loop-command-test.true in
    let at = c.loop-command.command-index in
    record {
      replies = replies_on c.args.map c.args.commands.now at c.command-item.result c.loop-command.map _ _ (omega (arith, within)) c.command-item.is c.loop-command.invariant.map c.loop-command.invariant.replies c.in_ok-execute_next.ensures.replies;
      map = map_on c.args.map c.args.commands.now at c.command-item.result c.loop-command.map _ (omega (arith, within)) c.command-item.is c.loop-command.invariant.map c.in_ok-execute_next.ensures.map;
      points = points_on c.args.map c.args.commands.now at c.command-item.result c.loop-command.map _ _ (omega (arith, within)) c.command-item.is c.loop-command.invariant.map c.loop-command.invariant.points c.in_ok-execute_next.ensures.points;
    }

pub returns-clause-replies : goal.returns-clause-replies
returns-clause-replies c =
    let all = take_all c.loop-command.command-index c.args.commands.now (omega (arith, c.loop-command-test.false)) in
    rw all at c.loop-command.invariant.replies

pub returns-clause-points : goal.returns-clause-points
returns-clause-points c =
    let all = take_all c.loop-command.command-index c.args.commands.now (omega (arith, c.loop-command-test.false)) in
    rw all at c.loop-command.invariant.points
