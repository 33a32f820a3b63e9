use Rattle.std.proofs.Common.{◌≡◌, ◌+◌, length}
use Rattle.std.specs.Vec.Iter.{into_iter_items}
use Rattle.crew.specs.Home.{placed, undrawn}
use Rattle.crew.proofs.home.place_left.Given as goal

-- the remaining pieces fill the places as all pieces fill the first ones
abbrev pub invariant-loop-piece : goal.invariant-loop-piece
invariant-loop-piece g l =
    (placed l.homes.items (undrawn l.number (into_iter_items l.piece-iterator)) ≡ placed l.initial.homes.items (undrawn l.fn.from l.fn.left.items))
    × (l.number + length (into_iter_items l.piece-iterator) ≡ l.fn.from + length l.fn.left.items)
