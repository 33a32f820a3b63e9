use Rattle.std.proofs.Common.{arith, sym}
use Rattle.std.proofs.lemmas.Bool.{eqb-true, eqb-false}
use Rattle.std.proofs.lemmas.List.{nil_from_length}
use Rattle.crew.specs.declared.machine.Event.TheVariants.{Home}
use Rattle.crew.proofs.Steps.{idle, busy, nobody, brings, brings_not, brings_none}
use Rattle.crew.proofs.progress.Progress.bring_home.Goals as goal
use Rattle.crew.proofs.progress.Progress.bring_home.Goals.{else-worker-len-via-then-worker-len+else-is_empty, else-worker-len-via-else-worker-len}

pub returns-in_ok-append : goal.returns-in_ok-append
returns-in_ok-append c =
    brings c.args.self.now c.args.worker c.index_mut-hand.result.now (omega arith) c.index_mut-hand.ensures.value c.append.new.self.items c.append.new.other
    (nil_from_length _ (omega (arith, eqb-true _ _ (sym c.if-is_empty.ensures))))
    (idle _ _ c.if-is_empty-2.ensures) c.in_ok-append.ensures.items c.in_ok-append.ensures.other_items

pub returns-else-is_empty-2 : goal.returns-else-is_empty-2
returns-else-is_empty-2 c = brings_not c.args.self.now c.args.worker c.index_mut-hand.result.now (omega arith) c.index_mut-hand.ensures.value (busy _ _ c.if-is_empty-2.ensures)

pub returns-else-worker-len : goal.returns-else-worker-len
returns-else-worker-len c =
    elim c.else-worker-len.branch [
      | else-worker-len-via-then-worker-len+else-is_empty w ↦ brings_none c.args.self.now c.args.worker (omega (arith, eqb-false _ _ (sym w.if-is_empty.ensures)))
      | else-worker-len-via-else-worker-len w ↦ nobody c.args.self.now (Home c.args.worker) (omega arith)
    ]
