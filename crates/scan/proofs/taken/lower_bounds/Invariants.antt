use Rattle.std.proofs.Common.{◌≡◌, take}
use Rattle.scan.specs.Deletions.{all_lower}
use Rattle.scan.proofs.taken.lower_bounds.Given as goal

-- the keys are those of the commands so far
abbrev pub invariant-loop-command : goal.invariant-loop-command
invariant-loop-command l = l.keys.items ≡ all_lower (take l.command-index l.commands)
