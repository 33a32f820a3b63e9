use Rattle.std.specs.Vec.Iter.{into_iter_items}
use Rattle.std.proofs.Common.{arith}
use Rattle.std.proofs.lemmas.List.{nil_from_length}
use Rattle.recovery.proofs.BuildLemmas.{next_is_last, next_filled, all_filled}
use Rattle.recovery.proofs.build_tree.put_all.Goals as goal

pub put_made-requires : goal.put_made-requires
put_made-requires c =
    next_is_last c.args.table.now c.loop-rebuilt.table (into_iter_items c.loop-rebuilt.rebuilt-iterator) (into_iter_items c.next.new.self) c.args.made.items c.loop-rebuilt.invariant c.in-Some.rebuilt c.in-Some.ensures.steps.0

pub loop-rebuilt-preserved : goal.loop-rebuilt-preserved
loop-rebuilt-preserved c =
    next_filled c.args.table.now c.loop-rebuilt.table (into_iter_items c.loop-rebuilt.rebuilt-iterator) (into_iter_items c.next.new.self) c.args.made.items c.loop-rebuilt.invariant c.in-Some.rebuilt c.in-Some.ensures.steps.0
    c.put_made.new.table c.in_ok-put_made.ensures

pub returns : goal.returns
returns c = all_filled c.args.table.now c.loop-rebuilt.table (into_iter_items c.loop-rebuilt.rebuilt-iterator) c.args.made.items (nil_from_length _ (omega (arith, c.in-None.ensures.steps.0))) c.loop-rebuilt.invariant
