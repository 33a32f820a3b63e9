use Rattle.std.proofs.Common.{⊎_elim, inl, inr, sym, ap, subst, ◌∙◌}
use Rattle.std.proofs.lemmas.Result.{err_from_is_err_and}
use Rattle.flush_log.specs.Ends.{ends_in, AreEnds}
use Rattle.flush_log.specs.Reading.{log}
use Rattle.flush_log.specs.Slot.{Slot}
use Rattle.flush_log.proofs.SlotLemmas.{ends-are}
use Rattle.recovery.proofs.ReadBytes.{kept_then, read_before, late_since, reads_with_fault, reads_then}
use Rattle.recovery.proofs.RecoverLemmas.{in-front, no_slot, no_log}
use Rattle.recovery.proofs.recovered.read_parts.Goals as goal

pub read_log-requires-clause-ends : goal.read_log-requires-clause-ends
read_log-requires-clause-ends g c = λ κs within. subst (λ (t : Slot). AreEnds c.in_ok-settings.settings (ends_in t)) (sym c.slot.view_is) (ends-are c.in_ok-settings.settings c.in_ok-slot.slot c.in_ok-slot.ensures.slot)

pub returns-in_err-settings-clause-only_reads : goal.returns-in_err-settings-clause-only_reads
returns-in_err-settings-clause-only_reads g c = reads_with_fault g.D.Disk.view g.D.Disk.failed c.args.disk.now c.read_settings.new.disk c.from_residual.result c.in_err-settings.field-0.0 c.from_residual.ensures.1 c.in_err-settings.ensures.only_reads

pub returns-in_err-slot-clause-only_reads : goal.returns-in_err-slot-clause-only_reads
returns-in_err-slot-clause-only_reads g c =
    let first = c.in_ok-settings.ensures.only_reads in
    reads_with_fault g.D.Disk.view g.D.Disk.failed c.args.disk.now c.read_store_slot.new.disk c.from_residual-in_err-slot.result c.in_err-slot.field-0.0 c.from_residual-in_err-slot.ensures.1
    (reads_then g.D.Disk.view g.D.Disk.failed c.args.disk.now c.read_settings.new.disk c.read_store_slot.new.disk _ first.kept first.same first.counted c.in_err-slot.ensures.only_reads)

pub returns-in_err-slot-clause-read : goal.returns-in_err-slot-clause-read
returns-in_err-slot-clause-read g c =
    let view = g.D.Disk.view in
    let old = view c.args.disk.now in
    let mid = view c.read_settings.new.disk in
    let new = view c.read_store_slot.new.disk in
    let (file, read, is) = c.in_ok-settings.ensures.read in
    let (now, got, settings, state) = c.in_err-slot.ensures.read file read is in
    let reads = returns-in_err-slot-clause-only_reads g c in
    let p = err_from_is_err_and c.from_residual-in_err-slot.result c.from_residual-in_err-slot.ensures.1 in
    rw (p.1, p.2) (
      now,
      read_before old new now reads.kept reads.same got,
      ⊎_elim (λ wrong. inl (no_slot now _ settings _ wrong)) (λ late. inr (late_since _ _ _ _ c.in_ok-settings.ensures.only_reads.counted late)) state,
    )

pub returns-in_err-gathering-clause-only_reads : goal.returns-in_err-gathering-clause-only_reads
returns-in_err-gathering-clause-only_reads g c =
    let first = c.in_ok-settings.ensures.only_reads in
    let both = reads_then g.D.Disk.view g.D.Disk.failed c.args.disk.now c.read_settings.new.disk c.read_store_slot.new.disk _ first.kept first.same first.counted c.in_ok-slot.ensures.only_reads in
    reads_with_fault g.D.Disk.view g.D.Disk.failed c.args.disk.now c.read_log.new.disk c.from_residual-in_err-gathering.result c.in_err-gathering.field-0.0 c.from_residual-in_err-gathering.ensures.1
    (reads_then g.D.Disk.view g.D.Disk.failed c.args.disk.now c.read_store_slot.new.disk c.read_log.new.disk _ both.kept both.same both.counted c.in_err-gathering.ensures.only_reads)

pub returns-in_err-gathering-clause-read : goal.returns-in_err-gathering-clause-read
returns-in_err-gathering-clause-read g c =
    let view = g.D.Disk.view in
    let old = view c.args.disk.now in
    let mid = view c.read_settings.new.disk in
    let later = view c.read_store_slot.new.disk in
    let new = view c.read_log.new.disk in
    let (file, read, is) = c.in_ok-settings.ensures.read in
    let (next, then, settings, slot) = c.in_ok-slot.ensures.read file read is in
    let (now, got, front, state) = c.in_err-gathering.ensures.read next then in
    let reads = returns-in_err-gathering-clause-only_reads g c in
    let (same, stays) = in-front c.in_ok-settings.settings next now old later new c.in_ok-settings.ensures.good.1 (kept_then old mid later c.in_ok-settings.ensures.only_reads.kept c.in_ok-slot.ensures.only_reads.kept) c.in_err-gathering.ensures.only_reads.kept then got front _ settings slot in
    let p = err_from_is_err_and c.from_residual-in_err-gathering.result c.from_residual-in_err-gathering.ensures.1 in
    rw (p.1, p.2) (
      now,
      read_before old new now reads.kept reads.same got,
      ⊎_elim (λ wrong. inl (no_log now _ same _ stays _ (ap (λ (t : Slot). log c.in_ok-settings.settings now t) (sym c.slot.view_is) ∙ wrong)))
          (λ late. inr (late_since _ _ _ _ c.in_ok-settings.ensures.only_reads.counted (late_since _ _ _ _ c.in_ok-slot.ensures.only_reads.counted late))) state,
    )

pub returns-clause-only_reads : goal.returns-clause-only_reads
returns-clause-only_reads g c =
    let first = c.in_ok-settings.ensures.only_reads in
    let both = reads_then g.D.Disk.view g.D.Disk.failed c.args.disk.now c.read_settings.new.disk c.read_store_slot.new.disk _ first.kept first.same first.counted c.in_ok-slot.ensures.only_reads in
    let all = reads_then g.D.Disk.view g.D.Disk.failed c.args.disk.now c.read_store_slot.new.disk c.read_log.new.disk _ both.kept both.same both.counted c.in_ok-gathering.ensures.only_reads in
    record { kept = all.kept; same = all.same; counted = all.counted; uncounted = tt }

pub returns-clause-read : goal.returns-clause-read
returns-clause-read g c =
    let view = g.D.Disk.view in
    let old = view c.args.disk.now in
    let mid = view c.read_settings.new.disk in
    let later = view c.read_store_slot.new.disk in
    let new = view c.read_log.new.disk in
    let (file, read, is) = c.in_ok-settings.ensures.read in
    let (next, then, settings, slot) = c.in_ok-slot.ensures.read file read is in
    let (now, got, front, state) = c.in_ok-gathering.ensures.read next then in
    let reads = returns-clause-only_reads g c in
    let (same, stays) = in-front c.in_ok-settings.settings next now old later new c.in_ok-settings.ensures.good.1 (kept_then old mid later c.in_ok-settings.ensures.only_reads.kept c.in_ok-slot.ensures.only_reads.kept) c.in_ok-gathering.ensures.only_reads.kept then got front _ settings slot in
    let (found, is_log, gathered) = state in (
      now,
      read_before old new now reads.kept reads.same got,
      record { settings = same; slot = stays; found = found; log = ap (λ (t : Slot). log c.in_ok-settings.settings now t) (sym c.slot.view_is) ∙ is_log; gathered = gathered },
    )
