use Rattle.std.proofs.Common.{◌≡◌, ◌≤◌, ◌-◌, length, take, true}
use Rattle.std.specs.List.{AllByRecursion}
use Rattle.routing.specs.Keyed.{has_key_below}
use Rattle.routing.proofs.sort.bounds_of_count.Given as goal

-- all entries so far are below the key, and the next entry examined is after them
abbrev pub invariant-loop-high : goal.invariant-loop-high
invariant-loop-high l = record {
  order : l.low ≤ l.high;
  most : l.low ≤ length l.keyed;
  below : AllByRecursion (λ entry. has_key_below l.key entry ≡ true) (take l.low l.keyed);
}

abbrev pub decreases-loop-high : goal.decreases-loop-high
decreases-loop-high l = length l.keyed - l.high
