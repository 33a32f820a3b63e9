use Rattle.std.proofs.Common.{◌+◌, ap, drop, arith}
use Rattle.std.proofs.lemmas.Result.{err_from_is_err_and}
use Rattle.std.proofs.lemmas.List.{drop_all}
use Rattle.engine.specs.Plays.{answer_of}
use Rattle.bwsh.specs.Shown.{shown_answer}
use Rattle.bwsh.proofs.AnswerLemmas.{lines_of_answers, answers_left, none_left, left_early, left_later}
use Rattle.bwsh.proofs.show.print_answers.Goals as goal

pub loop-answer-init : goal.loop-answer-init
loop-answer-init g c = record { leads = λ new end writes. writes }

pub returns-in_err-print_answer : goal.returns-in_err-print_answer
returns-in_err-print_answer g c =
    let at = c.loop-answer in
    let parsed = c.args.answers.now in
    let p = err_from_is_err_and c.from_residual.result c.from_residual.ensures.1 in
    rw (p.1, p.2) (left_early (g.O.Write.contents c.args.out.now) (g.O.Write.contents at.out) (lines_of_answers parsed) (lines_of_answers (drop at.answer-index parsed)) at.invariant.leads
    (shown_answer (answer_of c.answer-item.result)) (lines_of_answers (drop (at.answer-index + 1) parsed))
    (answers_left parsed at.answer-index c.answer-item.result c.loop-answer-test.true c.answer-item.is) (g.O.Write.contents c.print_answer.new.out) c.in_err-print_answer.field-0.0 c.in_err-print_answer.ensures)

pub loop-answer-preserved : goal.loop-answer-preserved
loop-answer-preserved g c =
    let at = c.loop-answer in
    let parsed = c.args.answers.now in
    record {
      leads = left_later (g.O.Write.contents c.args.out.now) (g.O.Write.contents at.out) (lines_of_answers parsed) (lines_of_answers (drop at.answer-index parsed)) at.invariant.leads
          (shown_answer (answer_of c.answer-item.result)) (lines_of_answers (drop (at.answer-index + 1) parsed))
          (answers_left parsed at.answer-index c.answer-item.result c.loop-answer-test.true c.answer-item.is) (g.O.Write.contents c.print_answer.new.out) tt c.in_ok-print_answer.ensures;
    }

pub returns : goal.returns
returns g c =
    let at = c.loop-answer in
    let parsed = c.args.answers.now in
    none_left (g.O.Write.contents c.args.out.now) (g.O.Write.contents at.out) (lines_of_answers parsed) (lines_of_answers (drop at.answer-index parsed)) at.invariant.leads
    (ap lines_of_answers (drop_all at.answer-index parsed (omega arith)))
