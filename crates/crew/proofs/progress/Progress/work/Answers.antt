use Rattle.std.proofs.Common.{arith}
use Rattle.crew.proofs.Steps.{works, works_nothing}
use Rattle.crew.proofs.progress.Progress.work.Goals as goal

pub returns-in_ok-push : goal.returns-in_ok-push
returns-in_ok-push c =
    works c.args.self.now c.args.worker c.index_mut-hand.result.now (omega arith) c.index_mut-hand.ensures.value c.args.mark c.push.new.self c.if-hand.true
    c.in_ok-push.ensures.items

pub returns-else-hand : goal.returns-else-hand
returns-else-hand c =
    works_nothing c.args.self.now c.args.worker c.index_mut-hand.result.now (omega arith) c.index_mut-hand.ensures.value c.args.mark c.if-hand.false
