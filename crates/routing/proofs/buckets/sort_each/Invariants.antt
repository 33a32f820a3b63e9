use Rattle.std.proofs.Common.{◌≡◌, length}
use Rattle.std.specs.List.Sorted.{IsPermutation}
use Rattle.routing.proofs.buckets.sort_each.Given as goal

-- the entries were only moved
abbrev pub invariant-loop-bucket : goal.invariant-loop-bucket
invariant-loop-bucket l = record {
  permutation : IsPermutation l.fn.keyed l.keyed;
  len : length l.keyed ≡ length l.fn.keyed;
}
