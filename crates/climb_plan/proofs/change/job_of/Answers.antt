use Rattle.std.proofs.Common.{List, Bor, refl, ap, ◌∙◌, arith, ◌∷◌, []}
use Rattle.std.proofs.lemmas.List.{map-append}
use Rattle.index_page.specs.InMemory.{InMemory, page_shown}
use Rattle.split_plan.specs.Pieces.{pages_lent}
use Rattle.climb_plan.specs.Changing.{SeenPage}
use Rattle.climb_plan.specs.Rewriting.{seen_now}
use Rattle.climb_plan.proofs.Copying.{told_more, told_all}
use Rattle.climb_plan.proofs.change.job_of.Goals as goal

pub loop-member-init : goal.loop-member-init
loop-member-init c = record {
  made = rw c.in_ok-members.ensures.items refl;
  count = c.in_ok-members.ensures.len;
  room = c.in_ok-members.ensures.exact;
}

pub loop-member-preserved : goal.loop-member-preserved
loop-member-preserved c =
    let lent = ap (λ (ps : List (Bor InMemory)). pages_lent ps) c.push_reserved.ensures.items ∙ map-append (λ (p : Bor InMemory). page_shown p.now) c.loop-member.members.items (c.member-item.result.page ∷ []) in
    record {
      made =
          told_more seen_now (λ (x : SeenPage). x.page) (pages_lent c.loop-member.members.items) (pages_lent c.push_reserved.new.self.items) _ c.args.group.now c.loop-member.member-index c.member-item.result c.loop-member-test.true c.member-item.is
          lent c.loop-member.invariant.made;
      count = omega (arith, c.push_reserved.ensures.len);
      room = rw c.push_reserved.ensures.capacity c.loop-member.invariant.room;
    }

pub returns : goal.returns
returns c = told_all seen_now (λ (x : SeenPage). x.page) (pages_lent c.loop-member.members.items) _ c.args.group.now c.loop-member.member-index c.loop-member-test.false c.loop-member.invariant.made
