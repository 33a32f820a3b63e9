use Rattle.std.proofs.Common.{◌∙◌, suc, List, flat_map, arith, refl, ap, inl, inr}
use Rattle.keys.specs.declared.fault.Fault.TheVariants.{NoMemory}
use Rattle.frame_codec.specs.Frame.{Frame}
use Rattle.flush_log.specs.Slot.{Slot}
use Rattle.recovery.proofs.ReadBytes.{read_before, handed_on, reads_without_failure, reads_with_fault}
use Rattle.cleaner.specs.Chosen.{image_in}
use Rattle.cleaner.specs.Cleaned.{cleaned_slot}
use Rattle.cleaner.specs.CleanText.{clean_frames}
use Rattle.cleaner.specs.PagesRead.{HasTexts}
use Rattle.cleaner.proofs.ChooseLemmas.{some-text}
use Rattle.cleaner.proofs.NextReading.{read-beside, has-more, texts-left}
use Rattle.cleaner.proofs.PlanLemmas.{head-room, log-left, images-by, as-clean, chosen-images}
use Rattle.cleaner.proofs.cleaning.plan.Goals as goal

pub returns-in_err-on_disk-clause-read : goal.returns-in_err-on_disk-clause-read
returns-in_err-on_disk-clause-read g c =
    let (file, is, reading) = c.requires.reading in
    (file, is, handed_on c.from_residual.result _ _ c.in_err-on_disk.field-0.0 c.from_residual.ensures.1 (inr c.in_err-on_disk.ensures.err))

pub returns-in_err-images-clause-read : goal.returns-in_err-images-clause-read
returns-in_err-images-clause-read g c =
    let (file, is, reading) = c.requires.reading in
    (file, is, handed_on c.from_residual-in_err-images.result _ _ NoMemory c.from_residual-in_err-images.ensures.1 (inr (inl refl)))

pub cleaned_slot-base-requires : goal.cleaned_slot-base-requires
cleaned_slot-base-requires g c = head-room c.args.format.now c.args.ends.now c.requires.checked c.requires.ends

pub plan-requires-clause-numbers : goal.plan-requires-clause-numbers
plan-requires-clause-numbers g c =
    rw c.cleaned_slot-base.ensures (c.requires.ends.number, c.requires.ends.tail)

pub plan-requires-clause-log : goal.plan-requires-clause-log
plan-requires-clause-log g c =
    let (file, is, reading) = c.requires.reading in
    rw c.cleaned_slot-base.ensures (log-left c.args.format.now c.args.ends.now c.requires.checked c.requires.ends (has-more c.args.format.now c.args.ends.now c.args.reading.now.limit c.requires.has reading.within))

pub plan-requires-clause-text : goal.plan-requires-clause-text
plan-requires-clause-text g c =
    let f = c.args.format.now in
    let t = c.args.ends.now in
    let (file, is, reading) = c.requires.reading in
    let words : List Frame = clean_frames t.head reading.found in
    let of = c.in_ok-images.ensures.frames ∙ ap (λ ps. flat_map (image_in f) ps) c.take-pages.ensures.taken ∙ reading.texts t.head (omega arith) c.requires.has in
    (words, images-by f c.cleaned_slot-base.result words _ (ap (λ (u : Slot). u.version) c.cleaned_slot-base.ensures) (chosen-images f t file reading.found _ reading.read of (some-text _ words of c.in_ok-images.ensures.some)))

pub returns-clause-read : goal.returns-clause-read
returns-clause-read g c =
    let view = g.D.Disk.view in
    let failed = g.D.Disk.failed in
    let old = view c.args.disk.now in
    let new = view c.read_slot_on_disk.new.disk in
    let f = c.args.format.now in
    let t = c.args.ends.now in
    let (file, is, reading) = c.requires.reading in
    let (now, then, agree, slot) = c.in_ok-on_disk.ensures.read file is in
    let found = reading.found in
    let more = has-more f t c.args.reading.now.limit c.requires.has reading.within in
    let whole = is.whole in
    let room = c.requires.within in
    let read = read-beside f t file now found c.requires.checked (omega (arith, whole, room)) agree reading.read in
    let of = c.in_ok-images.ensures.frames ∙ ap (λ ps. flat_map (image_in f) ps) c.take-pages.ensures.taken ∙ reading.texts t.head (omega arith) c.requires.has in
    let images = chosen-images f t file found _ reading.read of (some-text _ (clean_frames t.head found) of c.in_ok-images.ensures.some) in
    let base = c.cleaned_slot-base.ensures ∙ ap (λ (d : Slot). cleaned_slot f.version t d) slot in (
      now,
      read_before old new now c.in_ok-on_disk.ensures.only_reads.kept c.in_ok-on_disk.ensures.only_reads.same then,
      as-clean f t c.cleaned_slot-base.result now found (λ fs. HasTexts f (suc t.head) fs c.take-pages.new.self) (failed c.args.disk.now) (failed c.read_slot_on_disk.new.disk) c.plan.result more read
          (texts-left f t.head found c.args.reading.now c.take-pages.new.self c.take-pages.ensures.limit c.take-pages.ensures.rest reading.texts) base
          (c.plan.ensures (clean_frames t.head found) (images-by f c.cleaned_slot-base.result (clean_frames t.head found) _ (ap (λ (u : Slot). u.version) c.cleaned_slot-base.ensures) images)),
    )

pub returns-in_err-on_disk-clause-only_reads : goal.returns-in_err-on_disk-clause-only_reads
returns-in_err-on_disk-clause-only_reads g c = reads_with_fault g.D.Disk.view g.D.Disk.failed c.args.disk.now c.read_slot_on_disk.new.disk c.from_residual.result c.in_err-on_disk.field-0.0 c.from_residual.ensures.1 c.in_err-on_disk.ensures.only_reads

pub returns-in_err-images-clause-only_reads : goal.returns-in_err-images-clause-only_reads
returns-in_err-images-clause-only_reads g c =
    let ok = c.in_ok-on_disk.ensures.only_reads in
    reads_without_failure g.D.Disk.view g.D.Disk.failed c.args.disk.now c.read_slot_on_disk.new.disk c.from_residual-in_err-images.result ok.kept ok.same ok.counted

pub returns-clause-only_reads : goal.returns-clause-only_reads
returns-clause-only_reads g c =
    let ok = c.in_ok-on_disk.ensures.only_reads in
    reads_without_failure g.D.Disk.view g.D.Disk.failed c.args.disk.now c.read_slot_on_disk.new.disk c.plan.result ok.kept ok.same ok.counted
