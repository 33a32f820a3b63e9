use Rattle.std.proofs.Common.{arith}
use Rattle.climb_plan.specs.declared.seen.Seen.{Seen}
use Rattle.climb_plan.proofs.Copying.{taken_more, taken_all}
use Rattle.climb_plan.proofs.family.classes_of.Goals as goal

pub loop-child-preserved : goal.loop-child-preserved
loop-child-preserved c = record {
  made = taken_more (λ (x : Seen). x.class) c.loop-child.classes.items c.push_reserved.new.self.items c.args.children.now c.loop-child.child-index c.child-item.result c.loop-child-test.true c.child-item.is c.push_reserved.ensures.items c.loop-child.invariant.made;
  count = omega (arith, c.push_reserved.ensures.len);
  room = rw c.push_reserved.ensures.capacity c.loop-child.invariant.room;
}

pub returns : goal.returns
returns c = taken_all (λ (x : Seen). x.class) c.loop-child.classes.items c.args.children.now c.loop-child.child-index c.loop-child-test.false c.loop-child.invariant.made
