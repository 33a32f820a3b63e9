use Rattle.crew.specs.Drawn.{IsHandOf}
use Rattle.crew.proofs.drawn.draw_and_work.Given as goal

abbrev pub invariant-loop : goal.invariant-loop
invariant-loop g l = IsHandOf g.W.Work l.work l.board l.hand
