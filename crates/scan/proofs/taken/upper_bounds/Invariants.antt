use Rattle.std.proofs.Common.{◌≡◌, take}
use Rattle.scan.specs.Deletions.{all_upper}
use Rattle.scan.proofs.taken.upper_bounds.Given as goal

-- the keys are those of the commands so far
abbrev pub invariant-loop-command : goal.invariant-loop-command
invariant-loop-command l = l.keys.items ≡ all_upper (take l.command-index l.commands)
