use Rattle.std.proofs.Common.{inl, inr, true, false, Option, Some, sym, ap, ◌∙◌}
use Rattle.frame_codec.specs.Shown.{frame_of}
use Rattle.index_page.specs.Page.{PageOfKind}
use Rattle.recovery.specs.Rebuild.{page_of_parts}
use Rattle.recovery.proofs.RebuildLemmas.{IsReadAt, front_of, upto-first, upto-more, state-all, state-other, state-unfit, state-none, state-no_base, tail_by}
use Rattle.recovery.proofs.rebuild.rebuild.Goals as goal

pub returns-in_default : goal.returns-in_default
returns-in_default c = state-none c.args.format.now c.args.frames.now (rw c.in_default.is at c.in_ok-base.ensures.found)

pub returns-in_default-of_base : goal.returns-in_default-of_base
returns-in_default-of_base c =
    let at : IsReadAt c.args.format.now c.args.frames.now (frame_of c.in-Some.base) c.in-Some.size = record {
      found = rw c.in-Some.is at c.in_ok-base.ensures.found;
      long = rw c.in-Some.is at c.in_ok-base.ensures.size;
      within = rw c.in-Some.is at c.in_ok-base.ensures.within;
    } in
    state-no_base c.args.format.now c.args.frames.now (frame_of c.in-Some.base) _ (front_of c.args.format.now c.args.frames.now (frame_of c.in-Some.base) c.in-Some.size at) c.in_default-of_base.ensures

pub loop-rest-init : goal.loop-rest-init
loop-rest-init c =
    let at : IsReadAt c.args.format.now c.args.frames.now (frame_of c.in-Some.base) c.in-Some.size = record {
      found = rw c.in-Some.is at c.in_ok-base.ensures.found;
      long = rw c.in-Some.is at c.in_ok-base.ensures.size;
      within = rw c.in-Some.is at c.in_ok-base.ensures.within;
    } in
    upto-first c.args.format.now c.args.frames.now (frame_of c.in-Some.base) _ (page_of_parts c.in-Some-of_base.begun) (front_of c.args.format.now c.args.frames.now (frame_of c.in-Some.base) c.in-Some.size at) c.in-Some-of_base.ensures

pub returns-in_default-2 : goal.returns-in_default-2
returns-in_default-2 c =
    let s = c.args.format.now in
    let page = page_of_parts c.loop-rest.page in
    let rest = c.loop-rest.rest.now in
    elim (rw c.in_default-2.is at c.in_ok-following.ensures) [
      | inl none ↦ state-other s c.args.frames.now rest page c.loop-rest.invariant (tail_by rest false (sym c.is_empty.ensures ∙ c.loop-rest-test.true)) none
      | inr (f, next, found, less, unfit) ↦ state-unfit s c.args.frames.now rest page f next c.loop-rest.invariant (record { found = found; less = less }) unfit
    ]

pub loop-rest-smaller : goal.loop-rest-smaller
loop-rest-smaller c = let (f, found, less, run) = rw c.in-Some-2.is at c.in_ok-following.ensures in less

pub loop-rest-preserved : goal.loop-rest-preserved
loop-rest-preserved c =
    let (f, found, less, run) = rw c.in-Some-2.is at c.in_ok-following.ensures in
    upto-more c.args.format.now c.args.frames.now c.loop-rest.rest.now (page_of_parts c.loop-rest.page) (page_of_parts c.push_next.new.page) f c.in-Some-2.following.now c.loop-rest.invariant
    (record { found = found; less = less }) run

pub returns : goal.returns
returns c = ap some_page c.in_ok-into_page.ensures ∙ state-all c.args.format.now c.args.frames.now c.loop-rest.rest.now (page_of_parts c.loop-rest.page) c.loop-rest.invariant (tail_by c.loop-rest.rest.now true (sym c.is_empty.ensures ∙ c.loop-rest-test.false))
  where
    some_page : PageOfKind → Option PageOfKind
    some_page p = Some p
