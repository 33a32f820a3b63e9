use Rattle.std.proofs.Common.{map, refl, ap, ◌∙◌, arith}
use Rattle.std.proofs.lemmas.List.{take_all}
use Rattle.climb_plan.specs.Rewriting.{seen_now}
use Rattle.climb_plan.proofs.RewritingSeen.{copied_more}
use Rattle.climb_plan.proofs.seen.see_all.Goals as goal

pub loop-done-init : goal.loop-done-init
loop-done-init g c = record {
  made = rw c.in_ok-all.ensures.items refl;
  count = c.in_ok-all.ensures.len;
  room = c.in_ok-all.ensures.exact;
}

pub loop-done-preserved : goal.loop-done-preserved
loop-done-preserved g c = record {
  made =
      copied_more seen_now g.D.UpdatedPage.seen_page c.loop-done.all.items c.push_reserved.new.self.items c.as_seen.result c.args.dones.now c.loop-done.done-index c.done-item.result c.loop-done-test.true
      c.push_reserved.ensures.items c.as_seen.ensures c.done-item.is c.loop-done.invariant.made;
  count = omega (arith, c.push_reserved.ensures.len);
  room = rw c.push_reserved.ensures.capacity c.loop-done.invariant.room;
}

pub returns : goal.returns
returns g c = c.loop-done.invariant.made ∙ ap (map g.D.UpdatedPage.seen_page) (take_all c.loop-done.done-index c.args.dones.now c.loop-done-test.false)
