use Rattle.std.proofs.Common.{◌≡◌, ◌+◌, ◌≤◌, ◌++◌, map, length}
use Rattle.std.specs.Prelude.{IfOk, vec_capacity}
use Rattle.std.specs.List.{All}
use Rattle.std.specs.Vec.Iter.{into_iter_items}
use Rattle.replies.specs.ByPlace.{IsPlaceOf, blank_of, with_pieces}
use Rattle.engine.specs.Leaves.{without_answers}
use Rattle.engine.specs.Tasks.{changed_of, pieces_of}
use Rattle.engine.proofs.leaves.take_replies.Given as goal

-- adding the answers of the remaining leaves to the replies, if no allocation failed, equals adding all answers to blank replies; their places are
-- within these; the changed leaves go onto the list, and there is room for the rest
abbrev pub invariant-loop-done : goal.invariant-loop-done
invariant-loop-done l = record {
  count : IfOk l.replies (λ rs. length rs.items ≡ length l.commands);
  within : All (IsPlaceOf l.commands) (pieces_of (into_iter_items l.done-iterator));
  gathered : IfOk l.replies (λ rs. with_pieces l.commands (pieces_of (into_iter_items l.done-iterator)) rs.items ≡ with_pieces l.commands (pieces_of l.fn.dones.items) (map blank_of l.commands));
  leaves : l.leaves.items ++ map without_answers (changed_of (into_iter_items l.done-iterator)) ≡ map without_answers (changed_of l.fn.dones.items);
  room : length l.leaves.items + length (into_iter_items l.done-iterator) ≤ vec_capacity l.leaves;
}
