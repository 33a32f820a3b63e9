use Rattle.std.proofs.Common.{◌∙◌}
use Rattle.clap.specs.Words.{found_of, rows_of}
use Rattle.clap.proofs.WalkLemmas.{one_text-rows}
use Rattle.bwsh.proofs.FoundLemmas.{flag_read}
use Rattle.bwsh.proofs.options.flag_at.Goals as goal

pub returns : goal.returns
returns c = λ is given all rows.
    let found = found_of c.args.matches.now in
    let name = c.args.name.now in
    let same = one_text-rows found name in
    flag_read name is given (rows_of found) c.get_flag.result all rows (λ set. c.get_flag.ensures.value (same ∙ set)) (λ unset. c.get_flag.ensures.other (same ∙ unset))
