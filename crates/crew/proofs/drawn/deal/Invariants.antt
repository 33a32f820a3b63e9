use Rattle.std.proofs.Common.{◌≡◌, ◌+◌, ◌≤◌, ◌++◌, [], map, length, reverse, vec_capacity}
use Rattle.std.specs.List.{AllByRecursion}
use Rattle.crew.proofs.drawn.deal.Given as goal

-- the passes that were handed out, and those on the list, its top first, are all passes
abbrev pub invariant-loop-pass : goal.invariant-loop-pass
invariant-loop-pass g l = record {
  passes : map (λ hand. hand.pass) l.hands.items ++ reverse l.passes.items ≡ reverse l.initial.passes.items;
  none : AllByRecursion (λ hand. hand.worked.items ≡ []) l.hands.items;
  room : length l.hands.items + length l.passes.items ≤ vec_capacity l.hands;
  same : vec_capacity l.passes ≡ vec_capacity l.initial.passes;
}

abbrev pub decreases-loop-pass : goal.decreases-loop-pass
decreases-loop-pass g l = length l.passes.items
