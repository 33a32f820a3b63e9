use Rattle.std.proofs.Common.{◌≡◌, ◌<◌, length, map}
use Rattle.std.specs.List.{All}
use Rattle.std.specs.Vec.Iter.{into_iter_items}
use Rattle.keys.specs.Woven.{piece_of_empty_scan}
use Rattle.replies.specs.ByPlace.{with_pieces}
use Rattle.replies.proofs.add_empty_scans.Given as goal

-- adding the remaining pieces gives the list that adding all pieces to the first one gives; their places are within it
abbrev pub invariant-loop-place : goal.invariant-loop-place
invariant-loop-place l = record {
  count : length l.replies ≡ length l.commands;
  within : All (λ r. r.place < length l.commands) (into_iter_items l.place-iterator);
  gathered : with_pieces l.commands (map piece_of_empty_scan (into_iter_items l.place-iterator)) l.replies ≡ with_pieces l.commands (map piece_of_empty_scan l.fn.empty_scans.items) l.fn.replies;
}
