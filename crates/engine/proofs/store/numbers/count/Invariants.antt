use Rattle.std.proofs.Common.{◌≡◌, ◌≤◌, ◌+◌, ◌-◌, ◌^◌, min, length}
use Rattle.engine.proofs.store.numbers.count.Given as goal

-- the count so far, and the number of remaining pairs, are the number of all, up to the greatest number
abbrev pub invariant-loop-pair : goal.invariant-loop-pair
invariant-loop-pair l = (l.count ≤ 2 ^ 128 - 1) × (min (l.count + length l.pairs) (2 ^ 128 - 1) ≡ min (length l.fn.pairs) (2 ^ 128 - 1))

abbrev pub decreases-loop-pair : goal.decreases-loop-pair
decreases-loop-pair l = length l.pairs
