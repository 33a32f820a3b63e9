use Rattle.std.proofs.Common.{ap, length, arith}
use Rattle.engine.proofs.TaskLemmas.{home_first, home_next, held_next, taken_next}
use Rattle.engine.proofs.leaves.take_leaves.Goals as goal

pub task_of-requires : goal.task_of-requires
task_of-requires c = home_first c.loop-page_run.tree c.in-Some.page_run _ _ c.in-Some.ensures.steps.0 c.loop-page_run.invariant.home

pub loop-page_run-preserved : goal.loop-page_run-preserved
loop-page_run-preserved c =
    let at = c.loop-page_run in
    let cs = c.args.work.now.commands.now in
    let tree = at.tree in
    let now = c.task_of.new.tree in
    let route = c.in-Some.page_run in
    let left = c.in-Some.ensures.steps.0 in
    let count = ap length left in
    record {
      home = home_next cs tree now route _ _ left c.task_of.ensures.taken at.invariant.home;
      held = held_next cs tree now route _ _ left c.task_of.ensures.taken at.tasks.items _ _ _ at.invariant.home c.push_reserved.ensures.items c.task_of.ensures.held at.invariant.held;
      taken = taken_next cs tree now route _ _ left c.task_of.ensures.taken _ at.invariant.taken;
      room = omega (arith, count, c.push_reserved.ensures.len, c.push_reserved.ensures.capacity, at.invariant.room);
    }
