use Rattle.std.proofs.Common.{refl, ◌+◌, ◌/◌, ◌%◌, drop, List, sym, ap, subst, ◌∙◌, arith, ◌≡◌, ℕ, ◌-◌, ◌^◌, ◌≤◌, min}
use Rattle.std.proofs.lemmas.List.{at_drop_all}
use Rattle.keys.specs.Bytes.{Bytes}
use Rattle.flush_log.specs.Commit.{IsBesideSpans}
use Rattle.flush_log.specs.Disk.{Leaves, CountsFailure}
use Rattle.flush_log.specs.Gathering.{span_of}
use Rattle.flush_log.specs.Images.{frames_in, FitSegments}
use Rattle.flush_log.specs.Layout.{Span, opened, with_spans}
use Rattle.flush_log.specs.Overlay.{AgreeAt}
use Rattle.flush_log.specs.Segments.{disk_size}
use Rattle.flush_log.proofs.ViewLemmas.{counts_failed, owes_nothing}
use Rattle.flush_log.proofs.FitLemmas.{are_sized}
use Rattle.flush_log.proofs.GatherLemmas.{text-spans, open-upto}
use Rattle.flush_log.proofs.GatherRuns.{Going, going-starts, going-room, going-leaves, going-on, leaves-all, on_ok, alive, ends-written, ends-leaves}
use Rattle.flush_log.proofs.ReachLemmas.{front_item, fits-before}
use Rattle.flush_log.proofs.write.write_frames.Goals as goal

pub put_image-requires-clause-checked : goal.put_image-requires-clause-checked
put_image-requires-clause-checked g c = c.requires.checked

pub put_image-requires-clause-inside : goal.put_image-requires-clause-inside
put_image-requires-clause-inside g c = c.loop-image.invariant.inside

pub put_image-requires-clause-buffer : goal.put_image-requires-clause-buffer
put_image-requires-clause-buffer g c = c.loop-image.invariant.buffer

pub put_image-requires-clause-within : goal.put_image-requires-clause-within
put_image-requires-clause-within g c = subst (λ (n : ℕ). disk_size c.args.settings.now ≤ n) (sym c.loop-image.invariant.going.kept.size) c.requires.within

pub returns-in_err-part-clause-kept : goal.returns-in_err-part-clause-kept
returns-in_err-part-clause-kept g c =
    let so_far = c.loop-image.invariant.going.kept in
    record { honest = c.put_image.ensures.kept.honest ∙ so_far.honest; size = c.put_image.ensures.kept.size ∙ so_far.size }

pub returns-in_err-part-clause-failed : goal.returns-in_err-part-clause-failed
returns-in_err-part-clause-failed g c =
    counts_failed c.from_residual.result (g.D.Disk.failed c.args.disk.now) (g.D.Disk.failed c.put_image.new.disk) c.from_residual.ensures.0
    (subst (λ (n : ℕ). g.D.Disk.failed c.put_image.new.disk ≡ min (n + 1) (2 ^ 64 - 1)) c.loop-image.invariant.failed c.in_err-part.ensures.failed)

pub returns-in_err-part-clause-written : goal.returns-in_err-part-clause-written
returns-in_err-part-clause-written g c text of some honest = owes_nothing c.from_residual.result _ c.from_residual.ensures.0

pub returns-clause-kept : goal.returns-clause-kept
returns-clause-kept g c =
    let so_far = c.loop-image.invariant.going.kept in
    record { honest = c.write_part.ensures.kept.honest ∙ so_far.honest; size = c.write_part.ensures.kept.size ∙ so_far.size }

pub returns-clause-failed : goal.returns-clause-failed
returns-clause-failed g c = subst (λ (n : ℕ). CountsFailure c.write_part.result n (g.D.Disk.failed c.write_part.new.disk)) c.loop-image.invariant.failed c.write_part.ensures.failed

pub loop-image-init : goal.loop-image-init
loop-image-init g c =
    let s = c.args.settings.now in
    let disk = g.D.Disk in
    let start : Span = opened (c.args.tail / s.seg_size) (c.args.tail % s.seg_size) in
    let all = frames_in c.args.images.now in
    let least = (are_sized s c.requires.checked).least_size in
    let upto = open-upto s c.args.tail all c.requires.room.0 (omega arith) c.requires.room.1 c.requires.fits in
    let low = c.requires.room.2 in
    let begins = going-starts s start all (disk.view c.args.disk.now) (g.met.D.Disk.lawful c.args.disk.now) c.requires.fits (omega (arith, upto, low)) in
    record {
      inside = c.begin_part-part.ensures.inside;
      buffer = (let same = c.begin_part-part.ensures.buffer in let room = c.requires.buffer in omega arith);
      failed = refl;
      going = subst (λ (r : Span). Going s start all (disk.view c.args.disk.now) (disk.view c.args.disk.now) r all) (sym c.begin_part-part.ensures.same) begins;
    }

pub put_image-requires-clause-fits : goal.put_image-requires-clause-fits
put_image-requires-clause-fits g c =
    let s = c.args.settings.now in
    let next = front_item c.args.images.now c.loop-image.image-index c.image-item.result (omega arith) c.image-item.is in
    let fits = subst (λ (images : List (List Bytes)). FitSegments s (frames_in images)) next c.loop-image.invariant.going.fits in
    fits-before s c.image-item.result (frames_in (drop (c.loop-image.image-index + 1) c.args.images.now)) fits

pub put_image-requires-clause-room : goal.put_image-requires-clause-room
put_image-requires-clause-room g c =
    let s = c.args.settings.now in
    let disk = g.D.Disk in
    let start : Span = opened (c.args.tail / s.seg_size) (c.args.tail % s.seg_size) in
    let all = frames_in c.args.images.now in
    let r = span_of c.loop-image.part c.loop-image.buffer.items in
    let next = front_item c.args.images.now c.loop-image.image-index c.image-item.result (omega arith) c.image-item.is in
    let going = subst (λ (images : List (List Bytes)). Going s start all (disk.view c.args.disk.now) (disk.view c.loop-image.disk) r (frames_in images)) next c.loop-image.invariant.going in
    going-room s start all (disk.view c.args.disk.now) (disk.view c.loop-image.disk) r c.image-item.result (frames_in (drop (c.loop-image.image-index + 1) c.args.images.now)) going

pub returns-in_err-part-clause-crash : goal.returns-in_err-part-clause-crash
returns-in_err-part-clause-crash g c text of some honest =
    let s = c.args.settings.now in
    let disk = g.D.Disk in
    let start : Span = opened (c.args.tail / s.seg_size) (c.args.tail % s.seg_size) in
    let all = frames_in c.args.images.now in
    let old = disk.view c.args.disk.now in
    let r = span_of c.loop-image.part c.loop-image.buffer.items in
    let next = front_item c.args.images.now c.loop-image.image-index c.image-item.result (omega arith) c.image-item.is in
    let going = subst (λ (images : List (List Bytes)). Going s start all (disk.view c.args.disk.now) (disk.view c.loop-image.disk) r (frames_in images)) next c.loop-image.invariant.going in
    subst (λ (rs : List Span). Leaves (disk.view c.args.disk.now) (disk.view c.put_image.new.disk) (AgreeAt (IsBesideSpans s rs))) (text-spans s c.args.tail all text of some)
    (leaves-all s start all (disk.view c.args.disk.now) (disk.view c.put_image.new.disk)
    (going-leaves s start all (disk.view c.args.disk.now) (disk.view c.loop-image.disk) (disk.view c.put_image.new.disk) r c.image-item.result (frames_in (drop (c.loop-image.image-index + 1) c.args.images.now))
    (g.met.D.Disk.lawful c.loop-image.disk) going c.put_image.ensures.kept c.put_image.ensures.crash honest))

pub loop-image-preserved : goal.loop-image-preserved
loop-image-preserved g c =
    let s = c.args.settings.now in
    let disk = g.D.Disk in
    let start : Span = opened (c.args.tail / s.seg_size) (c.args.tail % s.seg_size) in
    let all = frames_in c.args.images.now in
    let r = span_of c.loop-image.part c.loop-image.buffer.items in
    let next = front_item c.args.images.now c.loop-image.image-index c.image-item.result (omega arith) c.image-item.is in
    let going = subst (λ (images : List (List Bytes)). Going s start all (disk.view c.args.disk.now) (disk.view c.loop-image.disk) r (frames_in images)) next c.loop-image.invariant.going in
    let put = c.in_ok-part.ensures in
    record {
      inside = put.inside;
      buffer = (let same = c.in_ok-part.ensures.buffer in let room = c.loop-image.invariant.buffer in omega arith);
      failed = put.failed ∙ c.loop-image.invariant.failed;
      going =
          going-on s start all (disk.view c.args.disk.now) (disk.view c.loop-image.disk) (disk.view c.put_image.new.disk) r c.image-item.result (frames_in (drop (c.loop-image.image-index + 1) c.args.images.now))
          (g.met.D.Disk.lawful c.loop-image.disk) going c.put_image.ensures.kept c.put_image.ensures.crash (span_of c.in_ok-part.part c.put_image.new.buffer.items) put.same put.written;
    }

pub returns-clause-written : goal.returns-clause-written
returns-clause-written g c text of some honest =
    let s = c.args.settings.now in
    let disk = g.D.Disk in
    let start : Span = opened (c.args.tail / s.seg_size) (c.args.tail % s.seg_size) in
    let all = frames_in c.args.images.now in
    let r = span_of c.loop-image.part c.deref.result.now in
    let none = at_drop_all frames_in c.args.images.now c.loop-image.image-index c.loop-image-test.false in
    let gathered = subst (λ (bs : Bytes). Going s start all (disk.view c.args.disk.now) (disk.view c.loop-image.disk) (span_of c.loop-image.part bs) (frames_in (drop c.loop-image.image-index c.args.images.now)))
    (sym c.deref.ensures.value) c.loop-image.invariant.going in
    let going = subst (Going s start all (disk.view c.args.disk.now) (disk.view c.loop-image.disk) r) none gathered in
    on_ok c.write_part.result
    (λ wrote.
    ends-written s start all (disk.view c.args.disk.now) (disk.view c.loop-image.disk) (disk.view c.write_part.new.disk) r (g.met.D.Disk.lawful c.loop-image.disk) going honest (λ still. wrote)
    ∙ ap (with_spans s (disk.view c.args.disk.now).seen) (text-spans s c.args.tail all text of some))
    (c.write_part.ensures.written (alive s start all (disk.view c.args.disk.now) (disk.view c.loop-image.disk) (disk.view c.write_part.new.disk) r (g.met.D.Disk.lawful c.loop-image.disk) going honest))

pub returns-clause-crash : goal.returns-clause-crash
returns-clause-crash g c text of some honest =
    let s = c.args.settings.now in
    let disk = g.D.Disk in
    let start : Span = opened (c.args.tail / s.seg_size) (c.args.tail % s.seg_size) in
    let all = frames_in c.args.images.now in
    let r = span_of c.loop-image.part c.deref.result.now in
    let none = at_drop_all frames_in c.args.images.now c.loop-image.image-index c.loop-image-test.false in
    let gathered = subst (λ (bs : Bytes). Going s start all (disk.view c.args.disk.now) (disk.view c.loop-image.disk) (span_of c.loop-image.part bs) (frames_in (drop c.loop-image.image-index c.args.images.now)))
    (sym c.deref.ensures.value) c.loop-image.invariant.going in
    let going = subst (Going s start all (disk.view c.args.disk.now) (disk.view c.loop-image.disk) r) none gathered in
    subst (λ (rs : List Span). Leaves (disk.view c.args.disk.now) (disk.view c.write_part.new.disk) (AgreeAt (IsBesideSpans s rs))) (text-spans s c.args.tail all text of some)
    (ends-leaves s start all (disk.view c.args.disk.now) (disk.view c.loop-image.disk) (disk.view c.write_part.new.disk) r (g.met.D.Disk.lawful c.loop-image.disk) going honest c.write_part.ensures.crash)
