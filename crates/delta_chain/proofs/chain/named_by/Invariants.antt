use Rattle.std.proofs.Common.{◌≡◌, ◌-◌, ◌^◌, length, min, take}
use Rattle.std.specs.List.{sum_by}
use Rattle.delta_chain.proofs.chain.named_by.Given as goal

-- the changes of the runs so far
abbrev pub invariant-loop-run : goal.invariant-loop-run
invariant-loop-run g l = l.named ≡ min (sum_by (λ run. length run) (take l.run-index l.runs)) (2 ^ 64 - 1)
