-- Proof for shrink of shrink.rt.
use Rattle.std.proofs.Common.{sym, ◌∙◌}
use Rattle.climb_plan.proofs.Shrinking.{way_at_start, rise_here, done_here, done_low, next_way, lower_now}
use Rattle.climb_plan.proofs.shrink.shrink.Goals as goal

pub loop-tree-init : goal.loop-tree-init
loop-tree-init c = way_at_start c.args.tree.now

pub only_child-requires : goal.only_child-requires
only_child-requires c = rise_here c.args.tree.now c.loop-tree.tree c.loop-tree.invariant c.height.result c.loop-tree-test.true c.height.ensures c.requires

pub returns-in_default : goal.returns-in_default
returns-in_default c = done_here c.args.tree.now c.loop-tree.tree c.loop-tree.invariant c.height.result c.loop-tree-test.true c.height.ensures (sym c.in_default.is ∙ c.only_child.ensures)

pub loop-tree-smaller : goal.loop-tree-smaller
loop-tree-smaller c = lower_now c.height.result c.in-Some.child c.loop-tree.tree c.lower_root.new.tree c.loop-tree-test.true c.height.ensures c.lower_root.ensures

pub loop-tree-preserved : goal.loop-tree-preserved
loop-tree-preserved c =
    next_way c.args.tree.now c.loop-tree.tree c.loop-tree.invariant c.height.result c.in-Some.child c.lower_root.new.tree c.loop-tree-test.true c.height.ensures (sym c.in-Some.is ∙ c.only_child.ensures) c.lower_root.ensures

pub returns : goal.returns
returns c = done_low c.args.tree.now c.loop-tree.tree c.loop-tree.invariant c.height.result c.loop-tree-test.false c.height.ensures
