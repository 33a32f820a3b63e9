use Rattle.std.proofs.Common.{◌≡◌}
use Rattle.recovery.specs.Gathered.{first_unfit}
use Rattle.recovery.proofs.gather.Gathering.unfit.Given as goal

-- the first unfit page among the remaining ones is the first one among all
abbrev pub invariant-loop-entry : goal.invariant-loop-entry
invariant-loop-entry l = first_unfit l.entry-iterator ≡ first_unfit l.fn.self.by_pid.entries
