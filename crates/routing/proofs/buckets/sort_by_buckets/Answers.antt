use Rattle.std.proofs.lemmas.List.Sorted.{IsPermutation-trans}
use Rattle.routing.proofs.buckets.sort_by_buckets.Goals as goal

pub returns-clause-permutation : goal.returns-clause-permutation
returns-clause-permutation c = IsPermutation-trans _ _ _ c.fill_each.ensures.permutation c.sort_each.ensures.permutation
