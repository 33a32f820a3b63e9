use Rattle.std.proofs.Common.{rules, true, false}
use Rattle.clap.specs.Words.{found_of}
use Rattle.bwsh.proofs.FoundLemmas.{source_given}
use Rattle.bwsh.proofs.options.was_given.Goals as goal

pub returns-in-Some-CommandLine : goal.returns-in-Some-CommandLine
returns-in-Some-CommandLine c = λ is given rows.
    source_given c.args.name.now is given (found_of c.args.matches.now) c.value_source.result true rows c.value_source.ensures (search rules)

pub returns-in_default : goal.returns-in_default
returns-in_default c = λ is given rows.
    source_given c.args.name.now is given (found_of c.args.matches.now) c.value_source.result false rows c.value_source.ensures (search rules)

pub returns-in_default-2 : goal.returns-in_default-2
returns-in_default-2 c = λ is given rows.
    source_given c.args.name.now is given (found_of c.args.matches.now) c.value_source.result false rows c.value_source.ensures (search rules)
