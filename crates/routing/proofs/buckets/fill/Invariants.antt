use Rattle.std.proofs.Common.{◌≡◌, length}
use Rattle.std.specs.List.Sorted.{IsPermutation}
use Rattle.routing.proofs.buckets.fill.Given as goal

-- the entries were only moved
abbrev pub invariant-loop-step : goal.invariant-loop-step
invariant-loop-step l = record {
  permutation : IsPermutation l.fn.keyed l.keyed;
  len : length l.keyed ≡ length l.fn.keyed;
}
