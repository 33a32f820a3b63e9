use Rattle.std.proofs.Common.{◌≡◌, length}
use Rattle.std.specs.List.{All}
use Rattle.std.specs.Vec.Iter.{into_iter_items}
use Rattle.replies.specs.ByPlace.{IsPlaceOf, with_pieces}
use Rattle.replies.proofs.add_all.Given as goal

-- adding the remaining pieces gives the list that adding all pieces to the first one gives; their places are within it
abbrev pub invariant-loop-place : goal.invariant-loop-place
invariant-loop-place l = record {
  count : length l.replies ≡ length l.commands;
  within : All (IsPlaceOf l.commands) (into_iter_items l.place-iterator);
  gathered : with_pieces l.commands (into_iter_items l.place-iterator) l.replies ≡ with_pieces l.commands l.fn.pieces.items l.fn.replies;
}
