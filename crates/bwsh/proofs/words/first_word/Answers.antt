use Rattle.std.proofs.Common.{◌≡◌, ◌-◌, length, take, drop, sym}
use Rattle.std.proofs.lemmas.List.{take_rest}
use Rattle.bwsh.proofs.WordLemmas.{words_of-no_word, words_of-a_word}
use Rattle.bwsh.proofs.words.first_word.Goals as goal

pub returns-in_err-start : goal.returns-in_err-start
returns-in_err-start c = rw c.from_residual.ensures (words_of-no_word c.args.line.now (sym c.in_err-start.ensures))

pub returns : goal.returns
returns c =
    let rest : take (length c.args.line.now - c.in_ok-start.start) (drop c.in_ok-start.start c.args.line.now) ≡ drop c.in_ok-start.start c.args.line.now = take_rest c.args.line.now c.in_ok-start.start in
    let end = rw (c.end_of_word.ensures, rest) at c.unwrap_or-end.ensures in
    rw (c.split_at.ensures.front, c.split_at.ensures.back, rest) (words_of-a_word c.args.line.now c.in_ok-start.start (sym c.in_ok-start.ensures) c.unwrap_or-end.result end)
