use Rattle.std.proofs.Common.{◌∙◌, sym}
use Rattle.bwsh.proofs.NumberLemmas.{IsUtf8-digits, number_in-parsed}
use Rattle.bwsh.proofs.number.number_in.Goals as goal

pub returns-in-Ok : goal.returns-in-Ok
returns-in-Ok c =
    c.ok.ensures.value
    ∙ number_in-parsed c.args.word.now (sym c.are_digits.ensures ∙ c.if-not-are_digits.false) c.in-Ok.digits.now c.parse.result c.in-Ok.ensures.cases.0 c.parse.ensures.value.0

pub returns-in-Err : goal.returns-in-Err
returns-in-Err c = absurd (c.in-Err.ensures.cases.0 (IsUtf8-digits c.args.word.now (sym c.are_digits.ensures ∙ c.if-not-are_digits.false)))
