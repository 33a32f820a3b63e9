use Rattle.std.proofs.Common.{ap, map, length, arith, refl}
use Rattle.climb_plan.proofs.Installing.{parents_next, taken_step, held_step}
use Rattle.climb_plan.proofs.install.take_all.Goals as goal

pub loop-pid-preserved : goal.loop-pid-preserved
loop-pid-preserved c =
    let tree = c.loop-pid.tree in
    let left = c.in-Some.ensures.steps.0 in
    let count = ap length left in
    record {
      home = parents_next tree _ _ _ _ (ap (map (λ t. t.0)) left) c.take.ensures.tree c.loop-pid.invariant.home;
      held = held_step tree c.take.new.self c.loop-pid.jobs.items _ _ (c.in-Some.pid, c.in-Some.terms) _ _ _ left c.take.ensures.tree c.loop-pid.invariant.home c.push_reserved.ensures.items refl refl c.take.ensures.page c.loop-pid.invariant.held;
      taken = taken_step tree _ _ _ _ _ (ap (map (λ t. t.0)) left) c.take.ensures.tree c.loop-pid.invariant.taken;
      room = omega (arith, count, c.push_reserved.ensures.len, c.push_reserved.ensures.capacity, c.loop-pid.invariant.room);
    }
