use Rattle.std.proofs.Common.{arith}
use Rattle.climb_plan.proofs.Installing.{front_item, taken_here, gone_tree, home_next, pages_step, freed_step}
use Rattle.climb_plan.proofs.install.take_others.Goals as goal

pub free-requires : goal.free-requires
free-requires c = taken_here c.loop-pid.tree _ _ c.take.ensures.tree

pub loop-pid-preserved : goal.loop-pid-preserved
loop-pid-preserved c =
    let tree = c.loop-pid.tree in
    let left = front_item c.args.pids.now c.loop-pid.pid-index c.pid-item.result c.loop-pid-test.true c.pid-item.is in
    let gone = gone_tree tree _ _ _ c.take.ensures.tree c.free.ensures in
    record {
      home = home_next tree _ _ _ _ left gone c.loop-pid.invariant.home;
      pages = pages_step tree _ _ _ _ c.loop-pid.pages.items _ _ _ left gone c.loop-pid.invariant.home c.push_reserved.ensures.items c.take.ensures.page c.loop-pid.invariant.pages;
      freed = freed_step tree _ _ _ _ _ left gone c.loop-pid.invariant.freed;
      room = omega (arith, c.push_reserved.ensures.len, c.push_reserved.ensures.capacity, c.loop-pid.invariant.room, c.loop-pid-test.true);
    }
