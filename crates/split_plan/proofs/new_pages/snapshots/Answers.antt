use Rattle.std.proofs.Common.{refl, ap, arith}
use Rattle.index_page.specs.InMemory.{page_shown}
use Rattle.split_plan.proofs.NewPagesLemmas.{one_shown, all_shown}
use Rattle.split_plan.proofs.new_pages.snapshots.Goals as goal

pub loop-member-init : goal.loop-member-init
loop-member-init c = record {
  made = rw c.in_ok-all.ensures.items refl;
  count = c.in_ok-all.ensures.len;
  room = c.in_ok-all.ensures.exact;
}

pub loop-member-preserved : goal.loop-member-preserved
loop-member-preserved c = record {
  made = one_shown (λ m. page_shown m.value) c.loop-member.all.items _ _ c.args.members.now c.loop-member.member-index c.member-item.result _ c.loop-member-test.true c.member-item.is c.push_reserved.ensures.items (ap page_shown c.of.ensures) c.loop-member.invariant.made;
  count = omega (arith, c.push_reserved.ensures.len);
  room = rw c.push_reserved.ensures.capacity c.loop-member.invariant.room;
}

pub returns : goal.returns
returns c = all_shown (λ m. page_shown m.value) c.loop-member.all.items c.args.members.now c.loop-member.member-index _ c.loop-member-test.false c.loop-member.invariant.made
