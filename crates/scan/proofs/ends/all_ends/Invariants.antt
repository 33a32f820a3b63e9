use Rattle.std.proofs.Common.{◌≡◌, length, map, take}
use Rattle.std.specs.Map.{keys_of}
use Rattle.std.specs.Option.{option_copied}
use Rattle.keys.specs.Narrowed.{MayEndAtAll}
use Rattle.mapping.specs.Levels.{levels_of, names, contents}
use Rattle.mapping.specs.TreeInMemory.{tree_of}
use Rattle.scan.specs.Ends.{deleted, wiped}
use Rattle.scan.specs.Deletions.{IsTaken, AreReady}
use Rattle.scan.proofs.ends.all_ends.Given as goal

-- there is an end for each command so far, and what these commands delete is counted
abbrev pub invariant-loop-command : goal.invariant-loop-command
invariant-loop-command l = record {
  taken : IsTaken (deleted (take l.command-index l.commands), wiped (take l.command-index l.commands)) l.taken;
  ready : AreReady l.commands l.taken;
  count : length l.ends.items ≡ l.command-index;
  ends : MayEndAtAll (keys_of (names (levels_of (tree_of l.fn.tree)).level)) (contents (tree_of l.fn.tree)) (take l.command-index l.commands) (map option_copied l.ends.items);
}
