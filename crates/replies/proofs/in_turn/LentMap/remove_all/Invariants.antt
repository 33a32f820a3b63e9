use Rattle.std.proofs.Common.{◌≡◌, ◌++◌}
use Rattle.std.specs.Vec.Iter.{into_iter_items}
use Rattle.std.specs.declared.alloc.Global.{Global}
use Rattle.keys.specs.Step.{map_after_all}
use Rattle.replies.specs.InTurn.{dels_of}
use Rattle.replies.proofs.in_turn.LentMap.remove_all.Given as goal

-- with the deletes of the remaining keys, these are the map and the commands of all deletes
abbrev pub invariant-loop-key : goal.invariant-loop-key
invariant-loop-key l = record {
  map : map_after_all l.self (dels_of {A = Global} (into_iter_items l.key-iterator)) ≡ map_after_all l.fn.self (dels_of {A = Global} l.fn.keys.items);
  points : l.points.items ++ dels_of (into_iter_items l.key-iterator) ≡ l.fn.points.items ++ dels_of l.fn.keys.items;
}
