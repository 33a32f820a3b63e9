use Rattle.std.proofs.Common.{◌≡◌, map, length}
use Rattle.std.specs.Prelude.{IfOk}
use Rattle.std.specs.List.{All}
use Rattle.std.specs.Vec.Iter.{into_iter_items}
use Rattle.keys.specs.Lists.{flat}
use Rattle.replies.specs.ByPlace.{IsPlaceOf, blank_of, with_pieces}
use Rattle.engine.proofs.reads.replies_of.Given as goal

-- adding the answers of the remaining leaves to the replies, if no allocation failed, equals adding all answers to blank replies; their places are
-- within these
abbrev pub invariant-loop-read : goal.invariant-loop-read
invariant-loop-read g l = record {
  count : IfOk l.replies (λ rs. length rs.items ≡ length l.commands);
  within : All (IsPlaceOf l.commands) (flat (map g.R.Answers.answers (into_iter_items l.read-iterator)));
  gathered : IfOk l.replies (λ rs. with_pieces l.commands (flat (map g.R.Answers.answers (into_iter_items l.read-iterator))) rs.items ≡ with_pieces l.commands (flat (map g.R.Answers.answers l.fn.reads.items)) (map blank_of l.commands));
}
