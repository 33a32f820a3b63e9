use Rattle.std.proofs.Common.{◌≡◌, List, ◌∷◌, [], ◌+◌, drop, refl, subst, ◌∙◌, arith, ℕ, ◌-◌, ◌^◌, ◌≤◌, min, sym}
use Rattle.std.proofs.lemmas.List.{drop_all}
use Rattle.keys.specs.Bytes.{Bytes}
use Rattle.flush_log.specs.Gathering.{span_of, left_by, open_after}
use Rattle.flush_log.specs.Layout.{with_spans}
use Rattle.flush_log.specs.Segments.{disk_size}
use Rattle.flush_log.proofs.ViewLemmas.{counts_failed, owes_nothing}
use Rattle.flush_log.proofs.ReachLemmas.{front}
use Rattle.flush_log.proofs.GatherRuns.{Going, going-starts, going-room, going-leaves, going-on}
use Rattle.flush_log.proofs.write.put_image.Goals as goal

pub put_frame-requires-clause-checked : goal.put_frame-requires-clause-checked
put_frame-requires-clause-checked g c = c.requires.checked

pub put_frame-requires-clause-inside : goal.put_frame-requires-clause-inside
put_frame-requires-clause-inside g c = c.loop-at.invariant.inside

pub put_frame-requires-clause-buffer : goal.put_frame-requires-clause-buffer
put_frame-requires-clause-buffer g c = c.loop-at.invariant.buffer

pub put_frame-requires-clause-within : goal.put_frame-requires-clause-within
put_frame-requires-clause-within g c = subst (λ (n : ℕ). disk_size c.args.settings.now ≤ n) (sym c.loop-at.invariant.going.kept.size) c.requires.within

pub returns-in_err-gathered-clause-inside : goal.returns-in_err-gathered-clause-inside
returns-in_err-gathered-clause-inside g c = owes_nothing c.from_residual.result _ c.from_residual.ensures.0

pub returns-in_err-gathered-clause-same : goal.returns-in_err-gathered-clause-same
returns-in_err-gathered-clause-same g c = owes_nothing c.from_residual.result _ c.from_residual.ensures.0

pub returns-in_err-gathered-clause-kept : goal.returns-in_err-gathered-clause-kept
returns-in_err-gathered-clause-kept g c =
    let so_far = c.loop-at.invariant.going.kept in
    record { honest = c.put_frame.ensures.kept.honest ∙ so_far.honest; size = c.put_frame.ensures.kept.size ∙ so_far.size }

pub returns-in_err-gathered-clause-failed : goal.returns-in_err-gathered-clause-failed
returns-in_err-gathered-clause-failed g c =
    counts_failed c.from_residual.result (g.D.Disk.failed c.args.disk.now) (g.D.Disk.failed c.put_frame.new.disk) c.from_residual.ensures.0
    (subst (λ (n : ℕ). g.D.Disk.failed c.put_frame.new.disk ≡ min (n + 1) (2 ^ 64 - 1)) c.loop-at.invariant.failed c.in_err-gathered.ensures.failed)

pub returns-in_err-gathered-clause-written : goal.returns-in_err-gathered-clause-written
returns-in_err-gathered-clause-written g c honest = owes_nothing c.from_residual.result _ c.from_residual.ensures.0

pub loop-at-init : goal.loop-at-init
loop-at-init g c =
    let disk = g.D.Disk in
    record {
      inside = c.requires.inside;
      buffer = c.requires.buffer;
      failed = refl;
      going = going-starts c.args.settings.now (span_of c.args.part c.args.buffer.now.items) c.args.image.now (disk.view c.args.disk.now) (g.met.D.Disk.lawful c.args.disk.now) c.requires.fits c.requires.room;
    }

pub put_frame-requires-clause-room : goal.put_frame-requires-clause-room
put_frame-requires-clause-room g c =
    let s = c.args.settings.now in
    let disk = g.D.Disk in
    let start = span_of c.args.part c.args.buffer.now.items in
    let r = span_of c.loop-at.gathered c.loop-at.buffer.items in
    let next = front c.args.image.now c.loop-at.at c.frame.result.now c.frame.ensures in
    let going = subst (Going s start c.args.image.now (disk.view c.args.disk.now) (disk.view c.loop-at.disk) r) next c.loop-at.invariant.going in
    going-room s start c.args.image.now (disk.view c.args.disk.now) (disk.view c.loop-at.disk) r (c.frame.result.now ∷ []) (drop (c.loop-at.at + 1) c.args.image.now) going

pub returns-in_err-gathered-clause-crash : goal.returns-in_err-gathered-clause-crash
returns-in_err-gathered-clause-crash g c =
    let s = c.args.settings.now in
    let disk = g.D.Disk in
    let start = span_of c.args.part c.args.buffer.now.items in
    let r = span_of c.loop-at.gathered c.loop-at.buffer.items in
    let next = front c.args.image.now c.loop-at.at c.frame.result.now c.frame.ensures in
    let going = subst (Going s start c.args.image.now (disk.view c.args.disk.now) (disk.view c.loop-at.disk) r) next c.loop-at.invariant.going in
    going-leaves s start c.args.image.now (disk.view c.args.disk.now) (disk.view c.loop-at.disk) (disk.view c.put_frame.new.disk) r (c.frame.result.now ∷ []) (drop (c.loop-at.at + 1) c.args.image.now)
    (g.met.D.Disk.lawful c.loop-at.disk) going c.put_frame.ensures.kept c.put_frame.ensures.crash

pub loop-at-preserved : goal.loop-at-preserved
loop-at-preserved g c =
    let s = c.args.settings.now in
    let disk = g.D.Disk in
    let start = span_of c.args.part c.args.buffer.now.items in
    let r = span_of c.loop-at.gathered c.loop-at.buffer.items in
    let next = front c.args.image.now c.loop-at.at c.frame.result.now c.frame.ensures in
    let going = subst (Going s start c.args.image.now (disk.view c.args.disk.now) (disk.view c.loop-at.disk) r) next c.loop-at.invariant.going in
    let put = c.in_ok-gathered.ensures in
    record {
      inside = put.inside;
      buffer = (let same = c.in_ok-gathered.ensures.buffer in let room = c.loop-at.invariant.buffer in omega arith);
      failed = put.failed ∙ c.loop-at.invariant.failed;
      going =
          going-on s start c.args.image.now (disk.view c.args.disk.now) (disk.view c.loop-at.disk) (disk.view c.put_frame.new.disk) r (c.frame.result.now ∷ []) (drop (c.loop-at.at + 1) c.args.image.now)
          (g.met.D.Disk.lawful c.loop-at.disk) going c.put_frame.ensures.kept c.put_frame.ensures.crash (span_of c.in_ok-gathered.gathered c.put_frame.new.buffer.items) put.same put.written;
    }

pub returns-clause-inside : goal.returns-clause-inside
returns-clause-inside g c = c.loop-at.invariant.inside

pub returns-clause-same : goal.returns-clause-same
returns-clause-same g c =
    let s = c.args.settings.now in
    let r = span_of c.loop-at.gathered c.loop-at.buffer.items in
    let none = drop_all c.loop-at.at c.args.image.now (omega arith) in
    subst (λ (frames : List Bytes). open_after s r frames ≡ open_after s (span_of c.args.part c.args.buffer.now.items) c.args.image.now) none c.loop-at.invariant.going.same

pub returns-clause-kept : goal.returns-clause-kept
returns-clause-kept g c = c.loop-at.invariant.going.kept

pub returns-clause-failed : goal.returns-clause-failed
returns-clause-failed g c = c.loop-at.invariant.failed

pub returns-clause-written : goal.returns-clause-written
returns-clause-written g c honest =
    let s = c.args.settings.now in
    let view = g.D.Disk.view in
    let r = span_of c.loop-at.gathered c.loop-at.buffer.items in
    let left = left_by s (span_of c.args.part c.args.buffer.now.items) c.args.image.now in
    let none = drop_all c.loop-at.at c.args.image.now (omega arith) in
    subst (λ (frames : List Bytes). with_spans s (view c.loop-at.disk).seen (left_by s r frames) ≡ with_spans s (view c.args.disk.now).seen left) none (c.loop-at.invariant.going.written honest)

pub returns-clause-crash : goal.returns-clause-crash
returns-clause-crash g c honest = c.loop-at.invariant.going.crash honest
