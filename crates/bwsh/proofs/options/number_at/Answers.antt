use Rattle.std.proofs.Common.{◌∙◌}
use Rattle.std.specs.Str.Parse.{ParsesUnsigned, ExplainsUnsignedError, HasUnsignedDigitsIfOk}
use Rattle.clap.specs.Words.{found_of}
use Rattle.clap.proofs.WalkLemmas.{one_text-rows}
use Rattle.bwsh.proofs.ReadLemmas.{number_read, unwrapped}
use Rattle.bwsh.proofs.options.number_at.Goals as goal

pub returns : goal.returns
returns c = λ text number found.
    unwrapped _ _ _ _ (number_read _ (λ bs r. ParsesUnsigned 32 10 bs r × ExplainsUnsignedError 10 bs r × HasUnsignedDigitsIfOk bs r) text c.get_one.result
    (λ u x g. g.0) number (c.get_one.ensures.value _ (one_text-rows (found_of c.args.matches.now) c.args.name.now ∙ found))) c.unwrap_or_default.ensures
