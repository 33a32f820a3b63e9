use Rattle.std.proofs.Common.{◌≡◌, ◌∙◌, ⊎_elim, ap, sym, subst, arith, refl}
use Rattle.std.proofs.lemmas.Result.{err_from_is_err_and}
use Rattle.keys.specs.declared.fault.Fault.{Fault}
use Rattle.keys.specs.declared.settings.Settings.{Settings}
use Rattle.engine.specs.Cleaning.{IsStoppedCleaning, most_ahead}
use Rattle.engine.specs.Refusal.{is_crew}
use Rattle.engine.specs.State.{IsSound}
use Rattle.engine.specs.Steps.Step.{Flush}
use Rattle.engine.proofs.AsBefore.{step_as_before}
use Rattle.engine.proofs.CleaningLemmas.{gone_on, not_gone_on, flushed_on, still_done, still_held, is_full, full_next, stopped_flush, read_done, stopped_reading, more_done, early_done, early_few, early_stopped, early_whole, stopped_by_row}
use Rattle.engine.proofs.CleansLemmas.{none_cleaned}
use Rattle.engine.proofs.store.Store.flush_in_rows.Goals as goal

-- ---- early cleans

pub returns-in_err-early-clause-refused : goal.returns-in_err-early-clause-refused
returns-in_err-early-clause-refused g c =
    let view = g.D.Disk.view in
    let failed = g.D.Disk.failed in
    let lawful = g.met.D.Disk.lawful in
    let old = c.args.self.now in
    let sound : IsSound view old = rw (← c.self.view_is) c.self.invariant.sound in
    let (machine, n, less, few, early, stopped) = c.in_err-early.ensures.stopped in
    let all = c.most_ahead-ahead.ensures.few in
    let exact = c.most_ahead-ahead.ensures.exact in
    let p = err_from_is_err_and c.from_residual.result c.from_residual.ensures.1 in
    rw (p.1, p.2) (early_stopped view failed lawful old c.clean_early.new.self n sound few (omega (arith, less, exact)) (omega (arith, all, exact)) _ (omega (arith, less, all)) machine early stopped)

pub room-init : goal.room-init
room-init g c =
    let view = g.D.Disk.view in
    let failed = g.D.Disk.failed in
    let lawful = g.met.D.Disk.lawful in
    let old = c.args.self.now in
    let sound : IsSound view old = rw (← c.self.view_is) c.self.invariant.sound in
    let (few, on, early, calm, held) = c.in_ok-early.ensures.done in
    let all = c.most_ahead-ahead.ensures.few in
    let exact = c.most_ahead-ahead.ensures.exact in
    let same : c.self.inside.settings.segments ≡ c.args.self.now.settings.segments = rw (← c.self.view_is) refl in
    let begun = early_whole view old c.clean_early.new.self _ _ exact early in
    let (rows, done, sum) = early_done view failed lawful old c.clean_early.new.self _ sound (early_few view old c.clean_early.new.self _ begun) (omega (arith, few, exact)) (omega (arith, all, exact))
    begun calm on _ (omega (arith, few, all, same)) in
    (rows, done, sum, held)

-- ---- the flush

pub returns-in-Ok-clause-flushed : goal.returns-in-Ok-clause-flushed
returns-in-Ok-clause-flushed g c =
    let old = c.args.self.now in
    let (rows, done, sum, held) = c.room.invariant in
    let ok = step_as_before g.D.Disk.view g.D.Disk.failed (is_crew c.args.crew) Flush c.room.self c.step.new.self _ c.in-Ok.ensures in
    flushed_on g.D.Disk.view g.D.Disk.failed g.met.D.Disk.lawful old rows c.room.self done c.step.new.self c.in-Ok._flushed
    ok.ok ok.rest ok.counted c.requires.fine ok.bytes ok.is_synced ok.crash ok.sound.1 (omega (arith, sum))

pub returns-in_err-go_on-in-Err-clause-refused : goal.returns-in_err-go_on-in-Err-clause-refused
returns-in_err-go_on-in-Err-clause-refused g c =
    let old = c.args.self.now in
    let view = g.D.Disk.view in
    let failed = g.D.Disk.failed in
    let (rows, done, sum, held) = c.room.invariant in
    let err = step_as_before g.D.Disk.view g.D.Disk.failed (is_crew c.args.crew) Flush c.room.self c.step.new.self _ c.in-Err.ensures in
    let p = err_from_is_err_and c.from_residual-in_err-go_on-in-Err.result c.from_residual-in_err-go_on-in-Err.ensures.1 in
    let last = not_gone_on c.in-Err.fault c.in_err-go_on-in-Err.field-0.0 c.room.left c.in_err-go_on-in-Err.ensures in
    rw (p.1, p.2) (subst (λ (f : Fault). IsStoppedCleaning view failed old c.step.new.self f) (sym last.0)
    (stopped_flush view failed g.met.D.Disk.lawful old rows c.room.self done c.step.new.self err.unchanged err.rest err.sound.1
    c.in-Err.fault c.room.left sum err.fine err.same err.device err.crash (err.refused (done.done.turn.has_failed ∙ c.requires.fine) c.requires.crew) last.1))

-- ---- a reading

pub reading_for_room-requires-clause-fine : goal.reading_for_room-requires-clause-fine
reading_for_room-requires-clause-fine g c = λ κs within. (
    let (rows, done, sum, held) = c.room.invariant in
    let err = step_as_before g.D.Disk.view g.D.Disk.failed (is_crew c.args.crew) Flush c.room.self c.step.new.self _ c.in-Err.ensures in
    let (full, more, other) = gone_on c.in-Err.fault c.room.left c.in_ok-go_on-in-Err.ensures in
    (err.fine other).0 ∙ done.done.turn.has_failed ∙ c.requires.fine)

pub reading_for_room-requires-clause-held : goal.reading_for_room-requires-clause-held
reading_for_room-requires-clause-held g c = λ κs within. (
    let (rows, done, sum, held) = c.room.invariant in
    let err = step_as_before g.D.Disk.view g.D.Disk.failed (is_crew c.args.crew) Flush c.room.self c.step.new.self _ c.in-Err.ensures in
    let (full, more, other) = gone_on c.in-Err.fault c.room.left c.in_ok-go_on-in-Err.ensures in
    still_held g.D.Disk.view c.room.self c.step.new.self err.rest.0 err.rest.1 err.unchanged (λ h. err.same h other) c.room.held held)

-- the settings stay, so a row has as many cleans at most as it had
pub reading_for_room-requires-clause-most : goal.reading_for_room-requires-clause-most
reading_for_room-requires-clause-most g c = λ κs within. (
    let (rows, done, sum, held) = c.room.invariant in
    let err = step_as_before g.D.Disk.view g.D.Disk.failed (is_crew c.args.crew) Flush c.room.self c.step.new.self _ c.in-Err.ensures in
    c.most_ahead-ahead.ensures.exact ∙ sym (ap (λ (s : Settings). most_ahead s) (err.rest.0 ∙ done.done.turn.settings)))

pub returns-in-Err-reading_for_room-clause-refused : goal.returns-in-Err-reading_for_room-clause-refused
returns-in-Err-reading_for_room-clause-refused g c =
    let old = c.args.self.now in
    let view = g.D.Disk.view in
    let failed = g.D.Disk.failed in
    let lawful = g.met.D.Disk.lawful in
    let (rows, done, sum, held) = c.room.invariant in
    let err = step_as_before g.D.Disk.view g.D.Disk.failed (is_crew c.args.crew) Flush c.room.self c.step.new.self _ c.in-Err.ensures in
    let (full, more, other) = gone_on c.in-Err.fault c.room.left c.in_ok-go_on-in-Err.ensures in
    let mid = still_done view failed lawful old rows c.room.self done c.step.new.self err.unchanged err.rest err.sound.1 (err.fine other) (λ h. err.same h other) in
    let is = is_full view failed lawful old rows c.room.self done c.step.new.self err.unchanged err.rest err.sound.1 c.in-Err.fault full (err.refused (done.done.turn.has_failed ∙ c.requires.fine) c.requires.crew) in
    stopped_reading view failed lawful old rows c.step.new.self mid c.reading_for_room.new.self is c.in-Err-reading_for_room.fault c.want_of_room.result (omega (arith, sum, more)) c.want_of_room.ensures c.in-Err-reading_for_room.ensures.refused

pub returns-in-Err-reading_for_room-clause-sound : goal.returns-in-Err-reading_for_room-clause-sound
returns-in-Err-reading_for_room-clause-sound g c =
    let sound : IsSound g.D.Disk.view c.args.self.now = rw (← c.self.view_is) c.self.invariant.sound in
    (sound, ⊎_elim (λ read. read.0.sound) (λ refused. refused.1.sound.1) c.in-Err-reading_for_room.ensures.refused.why)

-- ---- a row of cleans

pub clean_on-requires-clause-fine : goal.clean_on-requires-clause-fine
clean_on-requires-clause-fine g c =
    let (rows, done, sum, held) = c.room.invariant in
    let err = step_as_before g.D.Disk.view g.D.Disk.failed (is_crew c.args.crew) Flush c.room.self c.step.new.self _ c.in-Err.ensures in
    let (full, more, other) = gone_on c.in-Err.fault c.room.left c.in_ok-go_on-in-Err.ensures in
    let (only, held_now, roomy) = c.in-Ok-reading_for_room.ensures.read in
    only.counted.0 ∙ (err.fine other).0 ∙ done.done.turn.has_failed ∙ c.requires.fine

pub clean_on-requires-clause-some : goal.clean_on-requires-clause-some
clean_on-requires-clause-some g c = (gone_on c.in-Err.fault c.room.left c.in_ok-go_on-in-Err.ensures).1

pub returns-in-Err-clean_on-clause-refused : goal.returns-in-Err-clean_on-clause-refused
returns-in-Err-clean_on-clause-refused g c =
    let old = c.args.self.now in
    let view = g.D.Disk.view in
    let failed = g.D.Disk.failed in
    let lawful = g.met.D.Disk.lawful in
    let (rows, done, sum, held) = c.room.invariant in
    let err = step_as_before g.D.Disk.view g.D.Disk.failed (is_crew c.args.crew) Flush c.room.self c.step.new.self _ c.in-Err.ensures in
    let (full, some, other) = gone_on c.in-Err.fault c.room.left c.in_ok-go_on-in-Err.ensures in
    let mid = still_done view failed lawful old rows c.room.self done c.step.new.self err.unchanged err.rest err.sound.1 (err.fine other) (λ h. err.same h other) in
    let is = is_full view failed lawful old rows c.room.self done c.step.new.self err.unchanged err.rest err.sound.1 c.in-Err.fault full (err.refused (done.done.turn.has_failed ∙ c.requires.fine) c.requires.crew) in
    let (only, held_now, roomy) = c.in-Ok-reading_for_room.ensures.read in
    let at = c.reading_for_room.new.self in
    let next = read_done view failed lawful old rows c.step.new.self mid at only in
    let still = full_next view failed lawful old rows c.step.new.self mid at is only.store in
    let (n, less, few, first_or, stopped, refused) = c.in-Err-clean_on.ensures.stopped in
    stopped_by_row view failed lawful old rows at next c.clean_on.new.self still _ held_now roomy c.room.left some sum n few (omega (arith, less)) _ _ (omega (arith, less, sum)) c.want_of_room-in-Err-clean_on.ensures first_or refused stopped

pub returns-in-Err-clean_on-clause-sound : goal.returns-in-Err-clean_on-clause-sound
returns-in-Err-clean_on-clause-sound g c =
    let old = c.args.self.now in
    let view = g.D.Disk.view in
    let failed = g.D.Disk.failed in
    let lawful = g.met.D.Disk.lawful in
    let (rows, done, sum, held) = c.room.invariant in
    let err = step_as_before g.D.Disk.view g.D.Disk.failed (is_crew c.args.crew) Flush c.room.self c.step.new.self _ c.in-Err.ensures in
    let (full, some, other) = gone_on c.in-Err.fault c.room.left c.in_ok-go_on-in-Err.ensures in
    let mid = still_done view failed lawful old rows c.room.self done c.step.new.self err.unchanged err.rest err.sound.1 (err.fine other) (λ h. err.same h other) in
    let (only, held_now, roomy) = c.in-Ok-reading_for_room.ensures.read in
    let next = read_done view failed lawful old rows c.step.new.self mid c.reading_for_room.new.self only in
    let (n, less, few, first_or, stopped, refused) = c.in-Err-clean_on.ensures.stopped in
    (rw (← c.self.view_is) c.self.invariant.sound, (stopped old _ next.done).sound)

pub room-preserved : goal.room-preserved
room-preserved g c =
    let old = c.args.self.now in
    let view = g.D.Disk.view in
    let failed = g.D.Disk.failed in
    let lawful = g.met.D.Disk.lawful in
    let (rows, done, sum, held) = c.room.invariant in
    let err = step_as_before g.D.Disk.view g.D.Disk.failed (is_crew c.args.crew) Flush c.room.self c.step.new.self _ c.in-Err.ensures in
    let (full, some, other) = gone_on c.in-Err.fault c.room.left c.in_ok-go_on-in-Err.ensures in
    let mid = still_done view failed lawful old rows c.room.self done c.step.new.self err.unchanged err.rest err.sound.1 (err.fine other) (λ h. err.same h other) in
    let is = is_full view failed lawful old rows c.room.self done c.step.new.self err.unchanged err.rest err.sound.1 c.in-Err.fault full (err.refused (done.done.turn.has_failed ∙ c.requires.fine) c.requires.crew) in
    let (only, held_now, roomy) = c.in-Ok-reading_for_room.ensures.read in
    let at = c.reading_for_room.new.self in
    let next = read_done view failed lawful old rows c.step.new.self mid at only in
    let still = full_next view failed lawful old rows c.step.new.self mid at is only.store in
    let (n, many, goes, on, whole) = c.in-Ok-clean_on.ensures.done in
    let most = whole.0 in
    let (after, are, may) = more_done view failed lawful old rows at next c.clean_on.new.self still _ held_now roomy c.room.left some sum n many (omega (arith, most)) (omega (arith, most)) _ on whole goes in
    (after, are, may, tt)

-- ---- the rest

pub overflow_sub-left : goal.overflow_sub-left
overflow_sub-left g c =
    let (few, on, early, calm, held) = c.in_ok-early.ensures.done in
    let most = c.most_ahead-ahead.ensures.few in
    let same : c.self.inside.settings.segments ≡ c.args.self.now.settings.segments = rw (← c.self.view_is) refl in
    omega (arith, few, most, same)

pub returns-in_err-early-clause-sound : goal.returns-in_err-early-clause-sound
returns-in_err-early-clause-sound g c =
    let old = c.args.self.now in
    let sound : IsSound g.D.Disk.view old = rw (← c.self.view_is) c.self.invariant.sound in
    let (machine, n, less, few, early, stopped) = c.in_err-early.ensures.stopped in
    (sound, (stopped old 0 (none_cleaned g.D.Disk.view g.D.Disk.failed g.met.D.Disk.lawful old sound)).sound)

pub returns-in-Ok-clause-sound : goal.returns-in-Ok-clause-sound
returns-in-Ok-clause-sound g c = (rw (← c.self.view_is) c.self.invariant.sound, c.in-Ok.ensures.sound.1)

pub returns-in_err-go_on-in-Err-clause-sound : goal.returns-in_err-go_on-in-Err-clause-sound
returns-in_err-go_on-in-Err-clause-sound g c = (rw (← c.self.view_is) c.self.invariant.sound, c.in-Err.ensures.sound.1)
