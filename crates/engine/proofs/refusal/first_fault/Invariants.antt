use Rattle.std.proofs.Common.{◌≡◌, drop}
use Rattle.engine.specs.Refusal.{first_fault}
use Rattle.engine.proofs.refusal.first_fault.Given as goal

abbrev pub invariant-loop-place : goal.invariant-loop-place
invariant-loop-place l = first_fault l.settings l.place (drop l.place l.commands) ≡ first_fault l.settings 0 l.commands
