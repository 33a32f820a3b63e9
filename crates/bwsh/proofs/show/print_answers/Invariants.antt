use Rattle.std.proofs.Common.{drop}
use Rattle.bwsh.proofs.AnswerLemmas.{WritesAfter, lines_of_answers}
use Rattle.bwsh.proofs.show.print_answers.Given as goal

-- printing the remaining answers prints the remaining output
abbrev pub invariant-loop-answer : goal.invariant-loop-answer
invariant-loop-answer g l = record {
  leads : WritesAfter (g.O.Write.contents l.fn.out) (lines_of_answers l.fn.answers) (g.O.Write.contents l.out) (lines_of_answers (drop l.answer-index l.answers));
}
