use Rattle.std.proofs.Common.{◌+◌, drop, List, refl, subst, sym, ap, ◌∙◌, arith}
use Rattle.std.proofs.lemmas.List.{at_drop_all}
use Rattle.keys.specs.Bytes.{Bytes}
use Rattle.flush_log.specs.Images.{Reached, frames_in, from_tail, after_frames}
use Rattle.flush_log.specs.Layout.{tail_after}
use Rattle.flush_log.proofs.ReachLemmas.{Walk, walk-on, walk-spent, walk-end, fits-before, reported_none, reported_some, text_tail, text_spent, text_ends, some_tail, front_item}
use Rattle.flush_log.proofs.layout.text_end.Goals as goal

pub after_image-requires-clause-fits : goal.after_image-requires-clause-fits
after_image-requires-clause-fits c =
    let next = front_item c.args.images.now c.loop-image.image-index c.image-item.result (omega arith) c.image-item.is in
    let walk = subst (λ (images : List (List Bytes)). Walk c.args.settings.now (from_tail c.args.settings.now c.args.tail) (frames_in c.args.images.now) c.loop-image.reached (frames_in images)) next c.loop-image.invariant in
    fits-before c.args.settings.now c.image-item.result (frames_in (drop (c.loop-image.image-index + 1) c.args.images.now)) walk.fits

pub loop-image-preserved : goal.loop-image-preserved
loop-image-preserved c =
    let s = c.args.settings.now in
    let start = from_tail s c.args.tail in
    let all = frames_in c.args.images.now in
    let following = frames_in (drop (c.loop-image.image-index + 1) c.args.images.now) in
    let next = front_item c.args.images.now c.loop-image.image-index c.image-item.result (omega arith) c.image-item.is in
    let walk = subst (λ (images : List (List Bytes)). Walk s start all c.loop-image.reached (frames_in images)) next c.loop-image.invariant in
    let (is, low) = reported_some s c.in_ok-reached.reached (after_frames s c.loop-image.reached c.image-item.result) (sym c.in_ok-reached.was ∙ c.after_image.ensures) in
    walk-on s start all c.loop-image.reached c.in_ok-reached.reached c.image-item.result following walk is low

pub returns-in_err-reached : goal.returns-in_err-reached
returns-in_err-reached c text h =
    let s = c.args.settings.now in
    let start = from_tail s c.args.tail in
    let all = frames_in c.args.images.now in
    let following = frames_in (drop (c.loop-image.image-index + 1) c.args.images.now) in
    let next = front_item c.args.images.now c.loop-image.image-index c.image-item.result (omega arith) c.image-item.is in
    let walk = subst (λ (images : List (List Bytes)). Walk s start all c.loop-image.reached (frames_in images)) next c.loop-image.invariant in
    let over = reported_none s (after_frames s c.loop-image.reached c.image-item.result) (sym c.in_err-reached.was ∙ c.after_image.ensures) in
    let spent = walk-spent s start all c.loop-image.reached (after_frames s c.loop-image.reached c.image-item.result) c.image-item.result following walk refl over in
    c.from_residual.ensures ∙ text_spent s (after_frames s start all) (tail_after s c.args.tail text) spent (text_tail s c.args.tail all text h)

pub returns : goal.returns
returns c text h =
    let s = c.args.settings.now in
    let start = from_tail s c.args.tail in
    let all = frames_in c.args.images.now in
    let none = at_drop_all frames_in c.args.images.now c.loop-image.image-index c.loop-image-test.false in
    let whole = walk-end s start all c.loop-image.reached (frames_in (drop c.loop-image.image-index c.args.images.now)) c.loop-image.invariant none in
    ap (λ (r : Reached). some_tail r.tail) c.reached.view_is
    ∙ text_ends s c.loop-image.reached (after_frames s start all) (tail_after s c.args.tail text) whole (text_tail s c.args.tail all text h)
