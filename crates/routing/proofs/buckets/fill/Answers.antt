use Rattle.std.proofs.Common.{refl, ◌∙◌}
use Rattle.std.proofs.lemmas.List.Sorted.{IsPermutation-refl, IsPermutation-trans}
use Rattle.routing.proofs.buckets.fill.Goals as goal

pub loop-step-init : goal.loop-step-init
loop-step-init c = record { permutation = IsPermutation-refl c.args.keyed.now; len = refl }

pub loop-step-preserved : goal.loop-step-preserved
loop-step-preserved c = record {
  permutation = IsPermutation-trans _ _ _ c.loop-step.invariant.permutation c.move_next.ensures.permutation;
  len = c.move_next.ensures.len ∙ c.loop-step.invariant.len;
}

pub returns-then-not-move_next-clause-permutation : goal.returns-then-not-move_next-clause-permutation
returns-then-not-move_next-clause-permutation c = IsPermutation-trans _ _ _ c.loop-step.invariant.permutation c.move_next.ensures.permutation
