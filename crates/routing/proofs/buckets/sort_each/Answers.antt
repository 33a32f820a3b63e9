use Rattle.std.proofs.Common.{refl, ◌∙◌}
use Rattle.std.proofs.lemmas.List.Sorted.{IsPermutation-refl, IsPermutation-trans}
use Rattle.routing.proofs.buckets.sort_each.Goals as goal

pub loop-bucket-init : goal.loop-bucket-init
loop-bucket-init c = record { permutation = IsPermutation-refl c.args.keyed.now; len = refl }

pub loop-bucket-preserved : goal.loop-bucket-preserved
loop-bucket-preserved c = record {
  permutation = IsPermutation-trans _ _ _ c.loop-bucket.invariant.permutation c.sort_part.ensures.permutation;
  len = c.sort_part.ensures.len ∙ c.loop-bucket.invariant.len;
}
