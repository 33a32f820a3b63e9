use Rattle.std.proofs.Common.{◌≡◌, drop, map}
use Rattle.std.specs.List.{fold}
use Rattle.clap.specs.Words.{app_of, with_rule}
use Rattle.bwsh.specs.CommandLine.{number_rule}
use Rattle.bwsh.proofs.options.add_numbers.Given as goal

-- adding the numbers that are left gives what adding all of them gives
abbrev pub invariant-loop-name : goal.invariant-loop-name
invariant-loop-name l = fold with_rule (app_of l.command) (map (λ n. number_rule n.0.now n.1.now) (drop l.name-index l.numbers)) ≡ fold with_rule (app_of l.fn.command) (map (λ n. number_rule n.0.now n.1.now) l.fn.numbers)
