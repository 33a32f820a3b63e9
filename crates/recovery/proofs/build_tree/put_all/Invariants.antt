use Rattle.std.specs.Vec.Iter.{into_iter_items}
use Rattle.recovery.proofs.BuildLemmas.{IsFilledBy}
use Rattle.recovery.proofs.build_tree.put_all.Given as goal

-- the remaining pages fill the table as all pages fill the first one
abbrev pub invariant-loop-rebuilt : goal.invariant-loop-rebuilt
invariant-loop-rebuilt l = IsFilledBy l.fn.table l.table (into_iter_items l.rebuilt-iterator) l.fn.made.items
