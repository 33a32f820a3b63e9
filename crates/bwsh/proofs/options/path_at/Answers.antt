use Rattle.std.proofs.Common.{◌∙◌, Option, Some, ap, option_map, sym}
use Rattle.std.specs.Borrow.{Bor}
use Rattle.clap.specs.Words.{Text, found_of, rows_of}
use Rattle.clap.proofs.WalkLemmas.{first_value-rows}
use Rattle.bwsh.proofs.FoundLemmas.{path_read}
use Rattle.bwsh.proofs.options.path_at.Goals as goal

abbrev text_in : Option (Bor Text) → Option Text
text_in = option_map (λ s. s.now)

pub returns-in_ok-from_str-in-Some : goal.returns-in_ok-from_str-in-Some
returns-in_ok-from_str-in-Some c = λ is given rows.
    let found = found_of c.args.matches.now in
    let name = c.args.name.now in
    let copied = ap (λ (text : Text). Some text) c.in_ok-from_str-in-Some.ensures.ok in
    path_read name is given (rows_of found) _ rows (copied ∙ ap text_in (sym c.in-Some.is) ∙ c.get_str.ensures ∙ first_value-rows found name)

pub returns-in-None : goal.returns-in-None
returns-in-None c = λ is given rows.
    let found = found_of c.args.matches.now in
    let name = c.args.name.now in
    path_read name is given (rows_of found) _ rows (ap text_in (sym c.in-None.is) ∙ c.get_str.ensures ∙ first_value-rows found name)
