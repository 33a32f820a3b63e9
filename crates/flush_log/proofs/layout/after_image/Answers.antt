use Rattle.std.proofs.Common.{◌<◌, ◌≤◌, ◌+◌, ◌∷◌, [], drop, subst, ap, arith}
use Rattle.flush_log.specs.Images.{Reached}
use Rattle.flush_log.specs.Slot.{greatest}
use Rattle.flush_log.proofs.ReachLemmas.{Walk, walk-on, walk-spent, front}
use Rattle.flush_log.proofs.layout.after_image.Goals as goal

pub returns-then-reached-gt-GREATEST : goal.returns-then-reached-gt-GREATEST
returns-then-reached-gt-GREATEST c =
    let s = c.args.settings.now in
    let next = front c.args.image.now c.loop-at.at c.frame.result.now c.frame.ensures in
    let walk = subst (Walk s c.args.end c.args.image.now c.loop-at.reached) next c.loop-at.invariant in
    let q = c.after_frame-reached.ensures in
    let over : greatest < c.after_frame-reached.result.tail = (let same = ap (λ (r : Reached). r.tail) c.reached.view_is in let t = c.if-reached-gt-GREATEST.true in omega arith) in
    walk-spent s c.args.end c.args.image.now c.loop-at.reached c.after_frame-reached.result (c.frame.result.now ∷ []) (drop (c.loop-at.at + 1) c.args.image.now) walk q over

pub loop-at-preserved : goal.loop-at-preserved
loop-at-preserved c =
    let s = c.args.settings.now in
    let next = front c.args.image.now c.loop-at.at c.frame.result.now c.frame.ensures in
    let walk = subst (Walk s c.args.end c.args.image.now c.loop-at.reached) next c.loop-at.invariant in
    let q = c.after_frame-reached.ensures in
    let room : c.after_frame-reached.result.tail ≤ greatest = (let same = ap (λ (r : Reached). r.tail) c.reached.view_is in let t = c.if-reached-gt-GREATEST.false in omega arith) in
    walk-on s c.args.end c.args.image.now c.loop-at.reached c.after_frame-reached.result (c.frame.result.now ∷ []) (drop (c.loop-at.at + 1) c.args.image.now) walk q room
