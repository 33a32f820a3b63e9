use Rattle.std.proofs.Common.{◌≡◌, ◌++◌}
use Rattle.std.specs.Map.{keys_of}
use Rattle.keys.specs.Order.{IsRising}
use Rattle.keys.specs.Range.{in_range}
use Rattle.replies.proofs.LentRows.{keys_before}
use Rattle.replies.proofs.in_turn.LentMap.keys_within.Given as goal

-- the keys so far, and those that the remaining pairs give, are the keys of the range
abbrev pub invariant-loop-key : goal.invariant-loop-key
invariant-loop-key l = record {
  all : l.keys.items ++ keys_before l.hi l.key-iterator ≡ keys_of (in_range l.lo l.hi l.self);
  rising : IsRising l.key-iterator;
}
