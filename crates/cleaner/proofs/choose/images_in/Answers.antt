use Rattle.std.proofs.Common.{ℕ, List, length, arith, sym, ap, ◌∙◌}
use Rattle.std.specs.Vec.Iter.{into_iter_items}
use Rattle.std.proofs.lemmas.List.{nil_from_length}
use Rattle.cleaner.specs.Chosen.{image_in}
use Rattle.cleaner.proofs.ChooseLemmas.{chosen-none, next-none, next-some, all-chosen, nil_by}
use Rattle.cleaner.proofs.choose.images_in.Goals as goal

pub loop-page-init : goal.loop-page-init
loop-page-init c = chosen-none c.args.format.now c.new-images.result.items (into_iter_items c.into_iter-page-iterator.result) c.args.pages.items c.new-images.ensures.items c.into_iter-page-iterator.ensures.into_iter_gives.0

pub loop-page-preserved-then-len-eq0 : goal.loop-page-preserved-then-len-eq0
loop-page-preserved-then-len-eq0 c =
    next-none c.args.format.now c.loop-page.images.items (into_iter_items c.loop-page.page-iterator) c.args.pages.items c.loop-page.invariant c.in-Some.page (into_iter_items c.next.new.self) c.in_ok-image.image c.in-Some.ensures.steps.0 (c.in_ok-image.ensures ∙ ap (λ (bs : List ℕ). image_in c.args.format.now bs) c.deref.ensures.value)
    (nil_by c.in_ok-image.image (sym c.len.ensures ∙ c.if-len-eq0.true))

pub loop-page-preserved : goal.loop-page-preserved
loop-page-preserved c =
    next-some c.args.format.now c.loop-page.images.items (into_iter_items c.loop-page.page-iterator) c.args.pages.items c.loop-page.invariant c.push.new.self.items c.in-Some.page (into_iter_items c.next.new.self) c.in_ok-image.image c.in-Some.ensures.steps.0 (c.in_ok-image.ensures ∙ ap (λ (bs : List ℕ). image_in c.args.format.now bs) c.deref.ensures.value)
    (λ none. c.if-len-eq0.false (c.len.ensures ∙ ap (λ (i : List (List ℕ)). length i) none)) c.in_ok-push.ensures.items

pub returns-clause-frames : goal.returns-clause-frames
returns-clause-frames c = all-chosen c.args.format.now c.loop-page.images.items (into_iter_items c.loop-page.page-iterator) c.args.pages.items c.loop-page.invariant (nil_from_length _ (omega (arith, c.in-None.ensures.steps.0)))

pub returns-clause-some : goal.returns-clause-some
returns-clause-some c = c.loop-page.invariant.some
