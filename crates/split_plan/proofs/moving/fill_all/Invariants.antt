use Rattle.std.proofs.Common.{◌≡◌, ℕ, List, [], map, flat_map, drop, length}
use Rattle.std.specs.Map.{keys_of}
use Rattle.split_plan.specs.Frames.{frame_in}
use Rattle.split_plan.specs.Frames.Frame.{LeafFrame}
use Rattle.split_plan.specs.Moving.{HasLeft}
use Rattle.split_plan.proofs.MovingLemmas.{AreComplete}
use Rattle.split_plan.proofs.moving.fill_all.Given as goal

-- the leaves before the place are filled, and the entries of the others are left
abbrev pub invariant-loop-at : goal.invariant-loop-at
invariant-loop-at l = record {
  count : length l.pages.items ≡ length l.fn.blanks.items;
  filled : (bs : List (List ℕ × List (List ℕ × List ℕ))) → map (λ m. frame_in m.value) l.fn.blanks.items ≡ map (λ b. LeafFrame b.0 [] (keys_of b.1)) bs → HasLeft l.fn.source.chain l.fn.source.leaves.items (flat_map (λ b. b.1) bs)
      → AreComplete l.pages.items bs l.at × HasLeft l.source.chain l.source.leaves.items (flat_map (λ b. b.1) (drop l.at bs));
}
