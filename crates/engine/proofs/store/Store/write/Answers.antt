use Rattle.std.proofs.Common.{◌≡◌, ◌≤◌, ℕ, false, length, inl, inr, refl, sym, ap, subst, ◌∙◌}
use Rattle.std.proofs.lemmas.Bool.{true≢false}
use Rattle.std.proofs.lemmas.Result.{err_from_is_err_and}
use Rattle.mapping.specs.Levels.{contents}
use Rattle.mapping.specs.TreeInMemory.{TreeInMemory, tree_of}
use Rattle.flush_log.specs.AfterFlush.{slot_of}
use Rattle.flush_log.specs.FlushText.{version_with, commit_frames}
use Rattle.flush_log.specs.Segments.{disk_size}
use Rattle.flush_log.specs.Slot.{Slot}
use Rattle.flush_log.proofs.SameLemmas.{leaves_itself}
use Rattle.flush_log.proofs.ViewLemmas.{counted_failed, weaker}
use Rattle.recovery.proofs.ReadBytes.{kept_self}
use Rattle.recovery.specs.InStep.{IsStoreOf}
use Rattle.engine.specs.Calls.{with_version}
use Rattle.engine.specs.OneStep.{step_by}
use Rattle.engine.specs.State.{IsSound, state_of, store_in}
use Rattle.engine.proofs.FlushDone.{due-of, on-bytes, never-device, hides, keeps, reads, writing-refused, writing-would, writing-crashed, written-now, written-sound}
use Rattle.engine.proofs.OneStepLemmas.{reads_none, undone_by, words_by}
use Rattle.engine.proofs.RefusedCalls.{not_both}
use Rattle.engine.proofs.StepDone.{writing_done, writing_left, writing_refused}
use Rattle.engine.proofs.store.Store.write.Goals as goal

pub plan-requires-clause-store : goal.plan-requires-clause-store
plan-requires-clause-store g c κs within = (c.self.inside.version, c.self.invariant.sound.is)

pub plan-requires-clause-some : goal.plan-requires-clause-some
plan-requires-clause-some g c κs within =
    (due-of c.args.text c.self.inside.settings _ _ c.self.view_is c.requires.own c.requires.due c.self.invariant.sound.is c.an_upgrade_is_a_flush_of_outdated_pages.ensures.some).some

-- ---- not planned

pub returns-in_err-commit : goal.returns-in_err-commit
returns-in_err-commit g c = rw (← c.self.view_is) (
    let s = c.self.inside.settings in
    let st = store_in c.self.inside.tree c.self.inside.log c.self.inside.version in
    let text = c.args.text in
    let disk = c.self.inside.disk in
    let view = g.D.Disk.view in
    let old = view disk in
    let before = state_of s c.self.inside.tree c.self.inside.log c.self.inside.version disk c.self.inside.has_failed in
    let is = due-of text s _ _ c.self.view_is c.requires.own c.requires.due c.self.invariant.sound.is c.an_upgrade_is_a_flush_of_outdated_pages.ensures.some in
    let fine = subst (λ x. x.has_failed ≡ false) (sym c.self.view_is) c.requires.fine in
    let planned = store_in c.self.inside.tree c.self.inside.log (version_with text) in
    let err = c.in_err-commit.ensures.err in
    let p = err_from_is_err_and c.from_residual.result c.from_residual.ensures.1 in
    rw (p.1, p.2) (record {
      step = record {
        done = tt;
        counted = tt;
        rest = (refl, kept_self old);
        failed = λ bad. absurd (not_both c.self.inside.has_failed bad fine);
        bad_crew = λ _ bad. absurd (true≢false bad);
        refused = λ _ _. (old.seen, reads_none old text, writing_refused s st old.seen (step_by text) text refl _ _ _ (writing-refused text s st is _ old.seen _ _ err));
        undone = λ _. undone_by view g.D.Disk.failed before before text refl;
        device = λ device. absurd (never-device s (slot_of planned) (commit_frames text planned.tree) _ err device);
        bytes = λ _. tt;
        is_synced = λ _. tt;
        syncs = λ _ _. tt;
        crash = λ _ is_synced. leaves_itself old _ (g.met.D.Disk.lawful disk is_synced.honest) is_synced (inl refl);
        sound = (c.self.invariant.sound, c.self.invariant.sound);
      };
      version = tt;
    }))

-- ---- planned

pub write-requires-clause-planned : goal.write-requires-clause-planned
write-requires-clause-planned g c =
    let st = store_in c.self.inside.tree c.self.inside.log c.self.inside.version in
    (slot_of (with_version (version_with c.args.text) st), commit_frames c.args.text st.tree, c.in_ok-commit.ensures.plan st.version)

pub invariant_of-self : goal.invariant_of-self
invariant_of-self g c =
    let was = c.self.invariant in
    record {
      home = was.home;
      counted = was.counted;
      sound = record {
        is = was.sound.is;
        room = subst (λ (n : ℕ). disk_size c.self.inside.settings ≤ n) (sym c.write.ensures.kept.size) was.sound.room;
        step = λ fine. absurd (true≢false fine);
      };
    }

pub returns-in-Err : goal.returns-in-Err
returns-in-Err g c = rw (← c.self.view_is) (
    let s = c.self.inside.settings in
    let st = store_in c.self.inside.tree c.self.inside.log c.self.inside.version in
    let text = c.args.text in
    let disk = c.self.inside.disk in
    let view = g.D.Disk.view in
    let old = view disk in
    let before = state_of s c.self.inside.tree c.self.inside.log c.self.inside.version disk c.self.inside.has_failed in
    let is = due-of text s _ _ c.self.view_is c.requires.own c.requires.due c.self.invariant.sound.is c.an_upgrade_is_a_flush_of_outdated_pages.ensures.some in
    let fine = subst (λ x. x.has_failed ≡ false) (sym c.self.view_is) c.requires.fine in
    let p = c.in_ok-commit.ensures.plan st.version in
    record {
      step = record {
        done = tt;
        counted = tt;
        rest = (refl, c.write.ensures.kept);
        failed = λ bad. absurd (not_both c.self.inside.has_failed bad fine);
        bad_crew = λ _ bad. absurd (true≢false bad);
        refused = λ _ _. (
          old.seen,
          reads_none old text,
          writing_refused s st old.seen (step_by text) text refl _ _ _
              (inr (inr (c.into.ensures, counted_failed _ _ c.in-Err.ensures.failed, writing-would text s st is _ p old.seen))),
        );
        undone = λ other. absurd (other c.into.ensures);
        device = λ _. (refl, refl, words_by text s st is.own p.encoded.within);
        bytes = λ _. tt;
        is_synced = λ _. tt;
        syncs = λ _ _. tt;
        crash = λ _ is_synced. (
            let store : IsStoreOf s st old.seen = record { is = c.self.invariant.sound.is; step = c.self.invariant.sound.step fine is_synced.honest } in
            weaker old (view c.write.new.disk) _ _ (λ d left. writing_left s st old.seen (step_by text) text refl d left)
            (writing-crashed text s st is _ p old (view c.write.new.disk) store
            (hides c.a_crash_in_a_flush_leaves_the_store_before_or_after.ensures.hidden c.a_crash_in_an_upgrade_leaves_the_store_before_or_after.ensures.hidden text)
            (c.write.ensures.crash (slot_of (with_version (version_with text) st)) (commit_frames text st.tree) p is_synced)));
        sound = (c.self.invariant.sound, (invariant_of-self g c).sound);
      };
      version = tt;
    })

-- ---- written

pub invariant_of-self-2 : goal.invariant_of-self-2
invariant_of-self-2 g c =
    let s = c.self.inside.settings in
    let tree = c.self.inside.tree in
    let log = c.self.inside.log in
    let st = store_in tree log c.self.inside.version in
    let view = g.D.Disk.view in
    let old = view c.self.inside.disk in
    let text = c.args.text in
    let is = due-of text s _ _ c.self.view_is c.requires.own c.requires.due c.self.invariant.sound.is c.an_upgrade_is_a_flush_of_outdated_pages.ensures.some in
    let p = c.in_ok-commit.ensures.plan st.version in
    let fine = subst (λ x. x.has_failed ≡ false) (sym c.self.view_is) c.requires.fine in
    let tree_is = ap (λ (t : TreeInMemory). tree_of t) c.flushed.ensures ∙ c.a_table_marked_as_written_holds_the_flushed_tree.ensures s tree c.self.invariant.sound.is.good c.self.invariant.sound.is.proper in
    let done = written-now text s st is _ p c.flushed.new.self _ _ _ _ tree_is (c.slot.view_is ∙ c.slot-slot.ensures) old.seen in
    record {
      home = rw c.flushed.ensures c.self.invariant.home;
      counted = c.self.invariant.counted ∙ sym (ap (λ (t : TreeInMemory). length (contents (tree_of t))) c.flushed.ensures);
      sound = rw fine (written-sound view text s st _ c.self.inside.disk c.write.new.disk _ (subst (λ b. IsSound view (state_of s tree log st.version c.self.inside.disk b)) fine c.self.invariant.sound) is.own p.encoded.within
          (keeps c.what_was_flushed_is_what_is_read.ensures.kept c.what_was_upgraded_is_what_is_read.ensures.kept text)
          (reads c.what_was_flushed_is_what_is_read.ensures.read c.what_was_upgraded_is_what_is_read.ensures.read text) c.write.ensures.kept done
          (λ honest. c.in_default.ensures.written (slot_of (with_version (version_with text) st)) (commit_frames text st.tree) p honest));
    }

pub returns-clause-version : goal.returns-clause-version
returns-clause-version g c = ap (λ (t : Slot). t.version) (c.slot.view_is ∙ c.slot-slot.ensures ∙ (c.in_ok-commit.ensures.plan c.self.inside.version).slot)

pub returns-clause-step : goal.returns-clause-step
returns-clause-step g c = rw (← c.self.view_is) (
    let s = c.self.inside.settings in
    let st = store_in c.self.inside.tree c.self.inside.log c.self.inside.version in
    let text = c.args.text in
    let disk = c.self.inside.disk in
    let view = g.D.Disk.view in
    let old = view disk in
    let before = state_of s c.self.inside.tree c.self.inside.log c.self.inside.version disk c.self.inside.has_failed in
    let is = due-of text s _ _ c.self.view_is c.requires.own c.requires.due c.self.invariant.sound.is c.an_upgrade_is_a_flush_of_outdated_pages.ensures.some in
    let fine = subst (λ x. x.has_failed ≡ false) (sym c.self.view_is) c.requires.fine in
    let p = c.in_ok-commit.ensures.plan st.version in
    let tree_is = ap (λ (t : TreeInMemory). tree_of t) c.flushed.ensures ∙ c.a_table_marked_as_written_holds_the_flushed_tree.ensures s c.self.inside.tree c.self.invariant.sound.is.good c.self.invariant.sound.is.proper in
    let made = written-now text s st is _ p c.flushed.new.self _ _ _ _ tree_is (c.slot.view_is ∙ c.slot-slot.ensures) old.seen in
    record {
      done = (
        _,
        record {
          file = old.seen;
          read = reads_none old text;
          done = writing_done s st _ old.seen (step_by text) text _ _ refl refl made;
          words = words_by text s st is.own p.encoded.within;
        },
      );
      counted = (refl, c.in_default.ensures.failed);
      rest = (refl, c.write.ensures.kept);
      failed = λ bad. absurd (not_both c.self.inside.has_failed bad fine);
      bad_crew = λ _ bad. absurd (true≢false bad);
      refused = λ _ _. tt;
      undone = tt;
      device = tt;
      bytes = λ honest. writing_done s st _ old.seen (step_by text) text _ _ refl refl
          (on-bytes _ _ _ _ made (c.in_default.ensures.written (slot_of (with_version (version_with text) st)) (commit_frames text st.tree) p honest));
      is_synced = λ is_synced. c.in_default.ensures.is_synced is_synced.honest;
      syncs = λ honest _. c.in_default.ensures.is_synced honest;
      crash = λ _ is_synced. (
          let store : IsStoreOf s st old.seen = record { is = c.self.invariant.sound.is; step = c.self.invariant.sound.step fine is_synced.honest } in
          weaker old (view c.write.new.disk) _ _ (λ d left. writing_left s st old.seen (step_by text) text refl d left)
          (writing-crashed text s st is _ p old (view c.write.new.disk) store
          (hides c.a_crash_in_a_flush_leaves_the_store_before_or_after.ensures.hidden c.a_crash_in_an_upgrade_leaves_the_store_before_or_after.ensures.hidden text)
          (c.write.ensures.crash (slot_of (with_version (version_with text) st)) (commit_frames text st.tree) p is_synced)));
      sound = (c.self.invariant.sound, (invariant_of-self-2 g c).sound);
    })
