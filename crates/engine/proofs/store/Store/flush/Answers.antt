use Rattle.std.proofs.Common.{◌≡◌, true, false, [], inl, refl, sym, subst}
use Rattle.std.proofs.lemmas.Result.{err_from_is_err_and}
use Rattle.flush_log.specs.FlushText.{flush_frames}
use Rattle.flush_log.specs.declared.text.CommitKind.TheVariants as texts
use Rattle.flush_log.proofs.SameLemmas.{leaves_itself}
use Rattle.recovery.proofs.ReadBytes.{kept_self}
use Rattle.engine.specs.Refusal.{is_crew}
use Rattle.engine.specs.State.{IsSound, store_in}
use Rattle.engine.specs.Steps.Answer.{Flushed}
use Rattle.engine.specs.Steps.Step.{Flush}
use Rattle.engine.proofs.FlushDone.{nothing-flushed, nothing-framed}
use Rattle.engine.proofs.OneStepLemmas.{admitted_step, bad_crew_step, failed_step}
use Rattle.engine.proofs.RefusedCalls.{not_both}
use Rattle.engine.proofs.StepDone.{writing_done}
use Rattle.engine.proofs.store.Store.flush.Goals as goal

-- ---- the store has failed

pub returns-then-self : goal.returns-then-self
returns-then-self g c =
    let old = c.args.self.now in
    let bad : old.has_failed ≡ true = subst (λ x. x.has_failed ≡ true) c.self.view_is c.if-self.true in
    let sound : IsSound g.D.Disk.view old = rw (← c.self.view_is) c.self.invariant.sound in
    record {
      step = failed_step g.D.Disk.view g.D.Disk.failed (is_crew c.args.crew) old Flush (λ n. Flushed n) sound bad;
      nothing = λ fine. absurd (not_both old.has_failed bad fine);
    }

-- ---- the crew is out of range

pub returns-in_err-admit_crew : goal.returns-in_err-admit_crew
returns-in_err-admit_crew g c =
    let old = c.args.self.now in
    let fine : old.has_failed ≡ false = subst (λ x. x.has_failed ≡ false) c.self.view_is c.if-self.false in
    let sound : IsSound g.D.Disk.view old = rw (← c.self.view_is) c.self.invariant.sound in
    let why = c.in_err-admit_crew.ensures.err in
    let p = err_from_is_err_and c.from_residual.result c.from_residual.ensures.1 in
    rw (p.1, p.2, why.0) (record {
      step = bad_crew_step g.D.Disk.view g.D.Disk.failed (is_crew c.args.crew) old Flush (λ n. Flushed n) sound (g.met.D.Disk.lawful old.disk) fine why.1;
      nothing = λ _ able. absurd (not_both (is_crew c.args.crew) able why.1);
    })

-- ---- all is written

pub returns-then-is_all_written : goal.returns-then-is_all_written
returns-then-is_all_written g c = rw (← c.self.view_is) (
    let s = c.self.inside.settings in
    let st = store_in c.self.inside.tree c.self.inside.log c.self.inside.version in
    let disk = c.self.inside.disk in
    let old = g.D.Disk.view disk in
    let none = (c.is_all_written.ensures st.version).0 c.if-is_all_written.true in
    let done = writing_done s st st old.seen Flush (texts.Flush st.version) old.seen st.sequence refl refl (nothing-flushed s st old.seen none) in
    record {
      step = record {
        done = (old.seen, record { file = old.seen; read = refl; done = done; words = nothing-framed s st.version st.tree none });
        counted = (refl, refl);
        rest = (refl, kept_self old);
        failed = λ bad. absurd (not_both c.self.inside.has_failed bad c.if-self.false);
        bad_crew = λ _ bad. absurd (not_both (is_crew c.args.crew) c.in_ok-admit_crew.ensures.ok bad);
        refused = λ _ _. tt;
        undone = tt;
        device = tt;
        bytes = λ _. done;
        is_synced = λ is_synced. is_synced;
        syncs = λ _ some. absurd (some none);
        crash = λ _ is_synced. leaves_itself old _ (g.met.D.Disk.lawful disk is_synced.honest) is_synced (inl refl);
        sound = (c.self.invariant.sound, c.self.invariant.sound);
      };
      nothing = λ _ _ _. (refl, refl);
    })

-- ---- written

pub returns : goal.returns
returns g c =
    let old = c.args.self.now in
    record {
      step = admitted_step g.D.Disk.view g.D.Disk.failed (is_crew c.args.crew) old _ Flush (λ n. Flushed n) _ c.in_ok-admit_crew.ensures.ok c.write-2.ensures.step;
      nothing = λ _ _ none. absurd (not_both c.is_all_written.result ((c.is_all_written.ensures c.self.inside.version).1 (subst (λ x. flush_frames x.store.version x.store.tree ≡ []) (sym c.self.view_is) none)) c.if-is_all_written.false);
    }
