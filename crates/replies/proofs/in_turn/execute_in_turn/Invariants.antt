use Rattle.std.proofs.Common.{◌≡◌, take}
use Rattle.keys.specs.Step.{replies_to, map_after_all}
use Rattle.replies.specs.InTurn.{points_of}
use Rattle.replies.proofs.in_turn.execute_in_turn.Given as goal

-- these are the replies to the commands so far, the map after them, and what they change
abbrev pub invariant-loop-command : goal.invariant-loop-command
invariant-loop-command l = record {
  replies : l.replies.items ≡ replies_to l.fn.map (take l.command-index l.commands);
  map : l.map ≡ map_after_all l.fn.map (take l.command-index l.commands);
  points : l.points.items ≡ points_of l.fn.map (take l.command-index l.commands);
}
