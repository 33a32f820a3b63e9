use Rattle.std.proofs.Common.{◌≡◌, take}
use Rattle.scan.specs.Ends.{deleted}
use Rattle.scan.proofs.taken.deleted_keys.Given as goal

-- the keys are those of the commands so far
abbrev pub invariant-loop-command : goal.invariant-loop-command
invariant-loop-command l = l.keys.items ≡ deleted (take l.command-index l.commands)
