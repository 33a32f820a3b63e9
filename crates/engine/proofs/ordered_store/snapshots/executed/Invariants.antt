use Rattle.std.proofs.Common.{◌≡◌, take}
use Rattle.keys.specs.Step.{replies_to, map_after_all}
use Rattle.engine.proofs.ordered_store.snapshots.executed.Given as goal

-- these are the replies to the commands so far, and the map after them
abbrev pub invariant-loop-command : goal.invariant-loop-command
invariant-loop-command l = record {
  replies : l.replies.items ≡ replies_to l.fn.map (take l.command-index l.commands);
  map : l.map ≡ map_after_all l.fn.map (take l.command-index l.commands);
}
