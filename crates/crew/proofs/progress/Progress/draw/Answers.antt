use Rattle.std.proofs.Common.{arith}
use Rattle.crew.specs.declared.machine.Event.TheVariants.{Draw}
use Rattle.crew.proofs.Steps.{idle, busy, nobody, draws, draws_not}
use Rattle.crew.proofs.progress.Progress.draw.Goals as goal

pub returns-in-Some : goal.returns-in-Some
returns-in-Some c =
    draws c.args.self.now c.args.worker c.index_mut-hand.result.now (omega arith) c.index_mut-hand.ensures.value c.in-Some.piece c.pop_front.new.self.items
    c.in-Some.ensures.items (idle _ _ c.if-is_empty.ensures)

pub returns-else-is_empty : goal.returns-else-is_empty
returns-else-is_empty c = draws_not c.args.self.now c.args.worker c.index_mut-hand.result.now (omega arith) c.index_mut-hand.ensures.value (busy _ _ c.if-is_empty.ensures)

pub returns-else-worker-len : goal.returns-else-worker-len
returns-else-worker-len c = nobody c.args.self.now (Draw c.args.worker) (omega arith)
