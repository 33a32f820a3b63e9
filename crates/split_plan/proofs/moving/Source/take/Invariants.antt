use Rattle.std.proofs.Common.{ℕ, List, ◌∷◌, length}
use Rattle.split_plan.specs.Moving.{HasLeft}
use Rattle.split_plan.proofs.moving.Source.take.Given as goal

-- what was left is still left
abbrev pub invariant-loop-self : goal.invariant-loop-self
invariant-loop-self l = (v : List ℕ) (es : List (List ℕ × List ℕ)) → HasLeft l.fn.self.chain l.fn.self.leaves.items ((l.fn.key, v) ∷ es) → HasLeft l.self.chain l.self.leaves.items ((l.fn.key, v) ∷ es)

abbrev pub decreases-loop-self : goal.decreases-loop-self
decreases-loop-self l = length l.self.leaves.items
