use Rattle.std.proofs.lemmas.List.Sorted.{IsPermutation-refl, IsPermutation-trans}
use Rattle.routing.proofs.SortLemmas.{sorted_from_is_sorted}
use Rattle.routing.proofs.sort.sort_keyed.Goals as goal

pub returns-then-is_sorted-clause-permutation : goal.returns-then-is_sorted-clause-permutation
returns-then-is_sorted-clause-permutation g c = IsPermutation-refl c.args.keyed.now

pub returns-then-is_sorted-clause-sorted : goal.returns-then-is_sorted-clause-sorted
returns-then-is_sorted-clause-sorted g c = sorted_from_is_sorted c.args.keyed.now c.if-is_sorted.ensures.cases

pub returns-then-not-is_sorted-clause-permutation : goal.returns-then-not-is_sorted-clause-permutation
returns-then-not-is_sorted-clause-permutation g c = IsPermutation-trans _ _ _ c.sort_by_buckets.ensures.permutation c.sort_unstable.ensures.permutation

pub returns-else-not-is_sorted-clause-sorted : goal.returns-else-not-is_sorted-clause-sorted
returns-else-not-is_sorted-clause-sorted g c = sorted_from_is_sorted c.sort_by_buckets.new.keyed c.if-not-is_sorted.ensures.cases
