use Rattle.std.proofs.Common.{refl, arith}
use Rattle.climb_plan.specs.Changing.{SeenPage}
use Rattle.climb_plan.specs.Rewriting.{seen_now}
use Rattle.climb_plan.proofs.Copying.{told_more, told_all}
use Rattle.climb_plan.proofs.change.pids_of.Goals as goal

pub loop-member-init : goal.loop-member-init
loop-member-init c = record {
  made = rw c.in_ok-pids.ensures.items refl;
  count = c.in_ok-pids.ensures.len;
  room = c.in_ok-pids.ensures.exact;
}

pub loop-member-preserved : goal.loop-member-preserved
loop-member-preserved c = record {
  made =
      told_more seen_now (λ (x : SeenPage). x.pid) c.loop-member.pids.items c.push_reserved.new.self.items _ c.args.group.now c.loop-member.member-index c.member-item.result c.loop-member-test.true c.member-item.is
      c.push_reserved.ensures.items c.loop-member.invariant.made;
  count = omega (arith, c.push_reserved.ensures.len);
  room = rw c.push_reserved.ensures.capacity c.loop-member.invariant.room;
}

pub returns : goal.returns
returns c = told_all seen_now (λ (x : SeenPage). x.pid) c.loop-member.pids.items _ c.args.group.now c.loop-member.member-index c.loop-member-test.false c.loop-member.invariant.made
