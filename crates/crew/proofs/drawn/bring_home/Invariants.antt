use Rattle.std.proofs.Common.{◌≡◌, ◌+◌, ◌≤◌, ◌++◌, map, length, vec_capacity}
use Rattle.std.specs.List.{flat_map}
use Rattle.std.specs.Vec.Iter.{into_iter_items}
use Rattle.crew.specs.Home.{placed}
use Rattle.crew.proofs.drawn.bring_home.Given as goal

-- the remaining results fill the places as all results fill the first ones
abbrev pub invariant-loop-hand : goal.invariant-loop-hand
invariant-loop-hand g l = record {
  passes : l.passes.items ++ map (λ hand. hand.pass) (into_iter_items l.hand-iterator) ≡ map (λ hand. hand.pass) l.fn.hands.items;
  homes : placed l.homes.items (flat_map (λ hand. hand.worked.items) (into_iter_items l.hand-iterator)) ≡ placed l.initial.homes.items (flat_map (λ hand. hand.worked.items) l.fn.hands.items);
  room : length l.passes.items + length (into_iter_items l.hand-iterator) ≤ vec_capacity l.passes;
}
