use Rattle.std.proofs.Common.{◌+◌, List, length, length-append, vec_len, sym, ap, subst, ◌∙◌, arith, [], ◌∷◌, refl}
use Rattle.keys.specs.Bytes.{Bytes}
use Rattle.flush_log.specs.Disk.{Leaves}
use Rattle.flush_log.specs.Overlay.{AgreeAt}
use Rattle.flush_log.specs.Commit.{IsBesideSpans}
use Rattle.flush_log.specs.Layout.{Span, with_spans}
use Rattle.flush_log.specs.Gathering.{left_by, span_of}
use Rattle.flush_log.proofs.ViewLemmas.{counts_failed, owes_nothing, nothing_leaves}
use Rattle.flush_log.proofs.OverlayLemmas.{agree_same}
use Rattle.flush_log.proofs.GatherLemmas.{left-whole, next-begun, open-whole, begun-inside, left-here, open-part}
use Rattle.flush_log.proofs.write.put_frame.Goals as goal

pub returns-in_err-write_part-clause-inside : goal.returns-in_err-write_part-clause-inside
returns-in_err-write_part-clause-inside g c = owes_nothing c.from_residual.result _ c.from_residual.ensures.0

pub returns-in_err-write_part-clause-same : goal.returns-in_err-write_part-clause-same
returns-in_err-write_part-clause-same g c = owes_nothing c.from_residual.result _ c.from_residual.ensures.0

pub returns-in_err-write_part-clause-kept : goal.returns-in_err-write_part-clause-kept
returns-in_err-write_part-clause-kept g c = c.write_part.ensures.kept

pub returns-in_err-write_part-clause-failed : goal.returns-in_err-write_part-clause-failed
returns-in_err-write_part-clause-failed g c = counts_failed c.from_residual.result (g.D.Disk.failed c.args.disk.now) (g.D.Disk.failed c.write_part.new.disk) c.from_residual.ensures.0 c.in_err-write_part.ensures.failed

pub returns-in_err-write_part-clause-written : goal.returns-in_err-write_part-clause-written
returns-in_err-write_part-clause-written g c honest = owes_nothing c.from_residual.result _ c.from_residual.ensures.0

pub returns-then-end-seg_size-clause-inside : goal.returns-then-end-seg_size-clause-inside
returns-then-end-seg_size-clause-inside g c =
    let long = ap (λ (bs : Bytes). length bs) c.put.ensures.items ∙ length-append c.args.buffer.now.items c.args.frame.now in
    omega (arith, long, c.if-end-seg_size.true, c.args.buffer.now.ok.0)

pub returns-then-end-seg_size-clause-same : goal.returns-then-end-seg_size-clause-same
returns-then-end-seg_size-clause-same g c =
    open-part c.args.settings.now c.args.part c.args.buffer.now.items c.put.new.buffer.items c.args.frame.now (omega (arith, c.if-end-seg_size.true, c.args.buffer.now.ok.0)) c.put.ensures.items

pub returns-then-end-seg_size-clause-kept : goal.returns-then-end-seg_size-clause-kept
returns-then-end-seg_size-clause-kept g c = record { honest = refl; size = refl }

pub returns-then-end-seg_size-clause-failed : goal.returns-then-end-seg_size-clause-failed
returns-then-end-seg_size-clause-failed g c = refl

pub returns-then-end-seg_size-clause-written : goal.returns-then-end-seg_size-clause-written
returns-then-end-seg_size-clause-written g c honest =
    let s = c.args.settings.now in
    let left = left-here s (span_of c.args.part c.args.buffer.now.items) c.args.frame.now (omega (arith, c.if-end-seg_size.true, c.args.buffer.now.ok.0)) in
    ap (with_spans s (g.D.Disk.view c.args.disk.now).seen) (sym left)

pub returns-then-end-seg_size-clause-crash : goal.returns-then-end-seg_size-clause-crash
returns-then-end-seg_size-clause-crash g c honest =
    let s = c.args.settings.now in
    let beside = IsBesideSpans s (left_by s (span_of c.args.part c.args.buffer.now.items) (c.args.frame.now ∷ [])) in
    nothing_leaves (g.D.Disk.view c.args.disk.now) (AgreeAt beside) (g.met.D.Disk.lawful c.args.disk.now honest) (λ f. agree_same beside f)

pub returns-clause-inside : goal.returns-clause-inside
returns-clause-inside g c =
    let next = c.begin_segment-next.result in
    let begins = next-begun c.args.settings.now next (c.args.part.segment + 1) c.begin_segment-next.new.buffer.items c.put-2.new.buffer.items c.args.frame.now c.begin_segment-next.ensures.same c.put-2.ensures.items in
    begun-inside c.args.settings.now (span_of next c.put-2.new.buffer.items) (c.args.part.segment + 1) c.args.frame.now begins c.requires.fits

pub returns-clause-kept : goal.returns-clause-kept
returns-clause-kept g c = c.write_part.ensures.kept

pub returns-clause-failed : goal.returns-clause-failed
returns-clause-failed g c = c.in_ok-write_part.ensures.failed

pub returns-in_err-write_part-clause-crash : goal.returns-in_err-write_part-clause-crash
returns-in_err-write_part-clause-crash g c honest =
    let s = c.args.settings.now in
    let left = left-whole s c.args.part c.args.buffer.now.items c.deref.result.now c.args.frame.now (vec_len c.args.buffer.now) c.args.buffer.now.ok.0 (omega (arith, c.if-end-seg_size.false)) (c.deref.ensures.value ∙ c.pad.ensures.items) in
    subst (λ (rs : List Span). Leaves (g.D.Disk.view c.args.disk.now) (g.D.Disk.view c.write_part.new.disk) (AgreeAt (IsBesideSpans s rs))) (sym left) (c.write_part.ensures.crash honest)

pub returns-clause-crash : goal.returns-clause-crash
returns-clause-crash g c honest =
    let s = c.args.settings.now in
    let left = left-whole s c.args.part c.args.buffer.now.items c.deref.result.now c.args.frame.now (vec_len c.args.buffer.now) c.args.buffer.now.ok.0 (omega (arith, c.if-end-seg_size.false)) (c.deref.ensures.value ∙ c.pad.ensures.items) in
    subst (λ (rs : List Span). Leaves (g.D.Disk.view c.args.disk.now) (g.D.Disk.view c.write_part.new.disk) (AgreeAt (IsBesideSpans s rs))) (sym left) (c.write_part.ensures.crash honest)

pub returns-clause-written : goal.returns-clause-written
returns-clause-written g c honest =
    let s = c.args.settings.now in
    let left = left-whole s c.args.part c.args.buffer.now.items c.deref.result.now c.args.frame.now (vec_len c.args.buffer.now) c.args.buffer.now.ok.0 (omega (arith, c.if-end-seg_size.false)) (c.deref.ensures.value ∙ c.pad.ensures.items) in
    c.in_ok-write_part.ensures.written honest ∙ ap (with_spans s (g.D.Disk.view c.args.disk.now).seen) (sym left)

pub returns-clause-same : goal.returns-clause-same
returns-clause-same g c =
    let next = c.begin_segment-next.result in
    let begins = next-begun c.args.settings.now next (c.args.part.segment + 1) c.begin_segment-next.new.buffer.items c.put-2.new.buffer.items c.args.frame.now c.begin_segment-next.ensures.same c.put-2.ensures.items in
    open-whole c.args.settings.now c.args.part next c.args.buffer.now.items c.put-2.new.buffer.items c.args.frame.now (omega (arith, c.if-end-seg_size.false, c.args.buffer.now.ok.0)) begins
