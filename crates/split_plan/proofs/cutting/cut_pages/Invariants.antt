use Rattle.std.proofs.Common.{◌≡◌, ◌++◌, ◌-◌, map, vec_len}
use Rattle.std.specs.Prelude.{vec_capacity}
use Rattle.delta_chain.specs.Lent.{pairs_lent}
use Rattle.split_plan.specs.Cut.{cut}
use Rattle.split_plan.specs.Frames.{frame_in, frame_of}
use Rattle.split_plan.specs.Pieces.{pages_from}
use Rattle.split_plan.proofs.LentPieces.{pages_at}
use Rattle.split_plan.proofs.cutting.cut_pages.Given as goal

-- the pages so far, and those of the pieces from this place on, are all of them; and there is room for the rest
abbrev pub invariant-loop-at : goal.invariant-loop-at
invariant-loop-at g l = record {
  made : map (λ b. frame_in b.value) l.pages.items ++ map (λ p. frame_of (g.V.Kind.made p)) (pages_at l.low (pairs_lent l.entries) l.count l.at (l.count - l.at))
      ≡ map (λ p. frame_of (g.V.Kind.made p)) (pages_from l.low (cut l.fan (pairs_lent l.entries)));
  count : vec_len l.pages ≡ l.at;
  room : vec_capacity l.pages ≡ l.count;
}
