use Rattle.std.proofs.Common.{◌≡◌, ◌+◌, ◌-◌, ◌^◌, length, min}
use Rattle.scan.specs.Ends.{named_below}
use Rattle.scan.proofs.ends.named_below.Given as goal

-- the count so far, and the keys of the other lists, are the keys of all lists
abbrev pub invariant-loop-run : goal.invariant-loop-run
invariant-loop-run l = min (l.named + named_below l.key l.rest) (2 ^ 64 - 1) ≡ min (named_below l.key l.chain) (2 ^ 64 - 1)

abbrev pub decreases-loop-run : goal.decreases-loop-run
decreases-loop-run l = length l.rest.runs
