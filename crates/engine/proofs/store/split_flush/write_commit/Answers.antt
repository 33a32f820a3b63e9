use Rattle.std.specs.Arc.{arc_value}
use Rattle.std.proofs.Common.{◌≡◌, ◌≢◌, [], sym, ap, ◌∙◌, subst}
use Rattle.keys.specs.declared.settings.Settings.{Settings}
use Rattle.flush_log.specs.AfterFlush.{slot_of}
use Rattle.flush_log.specs.CommitPlan.{IsPlanned, LeftOf, file_with}
use Rattle.flush_log.specs.Disk.{LeavesOnly}
use Rattle.flush_log.specs.FlushText.{flush_frames}
use Rattle.flush_log.specs.Slot.{Slot}
use Rattle.flush_log.specs.declared.text.CommitKind.TheVariants as texts
use Rattle.flush_log.proofs.ViewLemmas.{counted_failed}
use Rattle.engine.specs.Calls.{IsWriting, with_version}
use Rattle.engine.specs.SplitFlush.{StateInMemory}
use Rattle.engine.proofs.FlushDone.{hides, keeps, reads}
use Rattle.engine.proofs.SplitLemmas.{after-sound, broken_step, written_step}
use Rattle.engine.proofs.store.split_flush.write_commit.Goals as goal

pub invariant_of-written : goal.invariant_of-written
invariant_of-written g c =
    let memory = arc_value c.args.memory in
    let s = memory.settings in
    let st = memory.store in
    let view = g.D.Disk.view in
    let disk = c.args.disk in
    let new = c.write.new.disk in
    let kind = texts.Flush st.version in
    let text = flush_frames st.version st.tree in
    let slot = slot_of (with_version st.version st) in
    let m = c.args.commit in
    let due : (text ≢ []) × IsWriting kind s st m = c.requires.commit in
    let same : c.settings-settings.result ≡ s = c.settings-settings.ensures ∙ ap (λ (x : StateInMemory). x.settings) c.deref.ensures in
    let planned : IsPlanned c.settings-settings.result slot text m = subst (λ (t : Settings). IsPlanned t slot text m) (sym same) due.1 in
    after-sound view g.D.Disk.failed s st disk (g.met.D.Disk.lawful disk) c.requires.sound due.0 m due.1 new c.write.ensures.kept
    (hides c.a_crash_in_a_flush_leaves_the_store_before_or_after.ensures.hidden c.a_crash_in_an_upgrade_leaves_the_store_before_or_after.ensures.hidden kind)
    (λ is_synced. subst (λ (t : Settings). LeavesOnly (view disk) (view new) (LeftOf t slot text (view disk).seen)) same (c.write.ensures.crash slot text planned is_synced))
    c.slot-slot.result c.slot-slot.ensures
    (keeps c.what_was_flushed_is_what_is_read.ensures.kept c.what_was_upgraded_is_what_is_read.ensures.kept kind)
    (reads c.what_was_flushed_is_what_is_read.ensures.read c.what_was_upgraded_is_what_is_read.ensures.read kind)
    (λ honest. subst (λ (t : Settings). (view new).seen ≡ file_with t slot text (view disk).seen) same (c.in-Ok.ensures.written slot text planned honest))

pub returns-in-Ok : goal.returns-in-Ok
returns-in-Ok g c = (
    let memory = arc_value c.args.memory in
    let s = memory.settings in
    let st = memory.store in
    let view = g.D.Disk.view in
    let disk = c.args.disk in
    let new = c.write.new.disk in
    let kind = texts.Flush st.version in
    let text = flush_frames st.version st.tree in
    let slot = slot_of (with_version st.version st) in
    let m = c.args.commit in
    let due : (text ≢ []) × IsWriting kind s st m = c.requires.commit in
    let same : c.settings-settings.result ≡ s = c.settings-settings.ensures ∙ ap (λ (x : StateInMemory). x.settings) c.deref.ensures in
    let planned : IsPlanned c.settings-settings.result slot text m = subst (λ (t : Settings). IsPlanned t slot text m) (sym same) due.1 in
    written_step view g.D.Disk.failed s st disk (g.met.D.Disk.lawful disk) c.requires.sound due.0 m due.1 new c.write.ensures.kept
    (hides c.a_crash_in_a_flush_leaves_the_store_before_or_after.ensures.hidden c.a_crash_in_an_upgrade_leaves_the_store_before_or_after.ensures.hidden kind)
    (λ is_synced. subst (λ (t : Settings). LeavesOnly (view disk) (view new) (LeftOf t slot text (view disk).seen)) same (c.write.ensures.crash slot text planned is_synced))
    c.slot-slot.result c.slot-slot.ensures
    (keeps c.what_was_flushed_is_what_is_read.ensures.kept c.what_was_upgraded_is_what_is_read.ensures.kept kind)
    (reads c.what_was_flushed_is_what_is_read.ensures.read c.what_was_upgraded_is_what_is_read.ensures.read kind)
    (λ honest. subst (λ (t : Settings). (view new).seen ≡ file_with t slot text (view disk).seen) same (c.in-Ok.ensures.written slot text planned honest))
    _ (ap (λ (t : Slot). t.sequence) c.slot.view_is) c.in-Ok.ensures.failed c.in-Ok.ensures.is_synced)

pub returns-in-Err : goal.returns-in-Err
returns-in-Err g c = (
    let memory = arc_value c.args.memory in
    let s = memory.settings in
    let st = memory.store in
    let view = g.D.Disk.view in
    let disk = c.args.disk in
    let new = c.write.new.disk in
    let kind = texts.Flush st.version in
    let text = flush_frames st.version st.tree in
    let slot = slot_of (with_version st.version st) in
    let m = c.args.commit in
    let due : (text ≢ []) × IsWriting kind s st m = c.requires.commit in
    let same : c.settings-settings.result ≡ s = c.settings-settings.ensures ∙ ap (λ (x : StateInMemory). x.settings) c.deref.ensures in
    let planned : IsPlanned c.settings-settings.result slot text m = subst (λ (t : Settings). IsPlanned t slot text m) (sym same) due.1 in
    broken_step view g.D.Disk.failed s st disk (g.met.D.Disk.lawful disk) c.requires.sound due.0 m due.1 new c.write.ensures.kept
    (hides c.a_crash_in_a_flush_leaves_the_store_before_or_after.ensures.hidden c.a_crash_in_an_upgrade_leaves_the_store_before_or_after.ensures.hidden kind)
    (λ is_synced. subst (λ (t : Settings). LeavesOnly (view disk) (view new) (LeftOf t slot text (view disk).seen)) same (c.write.ensures.crash slot text planned is_synced))
    _ c.into.ensures (counted_failed _ _ c.in-Err.ensures.failed))
