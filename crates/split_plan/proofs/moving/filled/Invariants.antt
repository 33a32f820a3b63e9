use Rattle.std.proofs.Common.{◌≡◌, ℕ, List, ◌++◌, drop}
use Rattle.std.specs.Map.{keys_of}
use Rattle.split_plan.specs.Moving.{HasLeft}
use Rattle.split_plan.proofs.MovingLemmas.{AreFilled}
use Rattle.split_plan.proofs.moving.filled.Given as goal

-- the cells before the place are filled, and the entries from the place on are left
abbrev pub invariant-loop-at : goal.invariant-loop-at
invariant-loop-at l = record {
  keys : keys_of l.base ≡ keys_of l.fn.blank;
  filled : (base es : List (List ℕ × List ℕ)) → keys_of l.fn.blank ≡ keys_of base → HasLeft l.fn.source.chain l.fn.source.leaves.items (base ++ es)
      → AreFilled l.base base l.at × HasLeft l.source.chain l.source.leaves.items (drop l.at base ++ es);
}
