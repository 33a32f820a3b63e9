use Rattle.std.proofs.Common.{◌≡◌, drop, map}
use Rattle.std.specs.List.{fold}
use Rattle.clap.specs.Words.{app_of, with_rule}
use Rattle.bwsh.specs.CommandLine.{flag_rule}
use Rattle.bwsh.proofs.options.add_flags.Given as goal

-- adding the flags that are left gives what adding all of them gives
abbrev pub invariant-loop-name : goal.invariant-loop-name
invariant-loop-name l = fold with_rule (app_of l.command) (map (λ f. flag_rule f.0.now) (drop l.name-index l.flags)) ≡ fold with_rule (app_of l.fn.command) (map (λ f. flag_rule f.0.now) l.fn.flags)
