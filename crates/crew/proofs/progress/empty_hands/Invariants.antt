use Rattle.std.proofs.Common.{◌≡◌, ◌≤◌, [], length, map, replicate, vec_capacity}
use Rattle.crew.specs.Marks.{hand_by}
use Rattle.crew.proofs.progress.empty_hands.Given as goal

-- the worker states so far are empty
abbrev pub invariant-loop : goal.invariant-loop
invariant-loop l = record {
  room : l.workers ≤ vec_capacity l.hands;
  count : length l.hands.items ≡ l.counter;
  hands : map hand_by l.hands.items ≡ replicate l.counter (record { unworked = []; worked = [] });
}
