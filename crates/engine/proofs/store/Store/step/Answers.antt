use Rattle.std.proofs.Common.{inl, refl, ap, sym, subst}
use Rattle.std.proofs.lemmas.Result.{err_from_is_err_and}
use Rattle.flush_log.specs.Disk.{IsSynced, Kept, LeavesOnly}
use Rattle.flush_log.proofs.SameLemmas.{leaves_itself}
use Rattle.recovery.proofs.ReadBytes.{kept_self}
use Rattle.engine.specs.Plays.{IsLeftInStep, step_of, answer_of}
use Rattle.engine.specs.Refusal.{is_crew}
use Rattle.engine.specs.Steps.Answer.{Cleaned, Flushed, Upgraded}
use Rattle.engine.specs.Steps.Step.{Batch, Flush, Clean, Upgrade}
use Rattle.engine.proofs.OneStepLemmas.{answered_on, as_step, refused_on}
use Rattle.engine.proofs.RefusedCalls.{not_refused_too, same_refusal}
use Rattle.engine.proofs.StepDone.{batch_never, batch_refused, batch_done}
use Rattle.engine.proofs.store.Store.step.Goals as goal

-- ---- a batch

pub returns-in_err-batch-in-Batch : goal.returns-in_err-batch-in-Batch
returns-in_err-batch-in-Batch g c =
    let old = c.args.self.now in
    let new = c.batch.new.self in
    let view = g.D.Disk.view in
    let failed = g.D.Disk.failed in
    let file = (view old.disk).seen in
    let cs = c.in-Batch.commands.now in
    let call = c.batch.ensures in
    let was = c.in_err-batch-in-Batch.was in
    let unchanged = c.in_err-batch-in-Batch.ensures.unchanged in
    let P = IsLeftInStep old.settings old.store file (Batch cs) in
    let p = err_from_is_err_and c.from_residual.result c.from_residual.ensures.1 in
    rw (p.1, p.2) (as_step view failed (is_crew c.args.crew) old new (Batch cs) answer_of answer_of (step_of c.args.step) _ (ap step_of c.in-Batch.is) (record {
      done = tt;
      counted = tt;
      rest = (call.rest.0, subst (λ d. Kept (view old.disk) (view d)) (sym call.rest.1) (kept_self (view old.disk)));
      failed = λ bad. (same_refusal c.batch.result _ _ was (call.failed bad), unchanged);
      bad_crew = λ fine bad. (same_refusal c.batch.result _ _ was (call.bad_crew fine bad), unchanged);
      refused = λ fine able. (file, refl, batch_refused old.settings old.store cs c.batch.result _ was file (failed old.disk) (failed new.disk) (Batch cs) refl (call.refused fine able));
      undone = λ _. unchanged;
      device = λ device. absurd (batch_never old.settings old.store cs c.batch.result _ was old.has_failed (is_crew c.args.crew) call.failed call.bad_crew call.refused device);
      bytes = λ _. tt;
      is_synced = λ _. tt;
      syncs = λ _ _. tt;
      crash = λ _ is_synced. subst (λ d. LeavesOnly (view old.disk) (view d) P) (sym call.rest.1) (leaves_itself (view old.disk) P (g.met.D.Disk.lawful old.disk is_synced.honest) is_synced (inl refl));
      sound = call.sound;
    }))

pub returns-in_ok-batch-in-Batch : goal.returns-in_ok-batch-in-Batch
returns-in_ok-batch-in-Batch g c =
    let old = c.args.self.now in
    let now = c.batch.new.self in
    let view = g.D.Disk.view in
    let failed = g.D.Disk.failed in
    let file = (view old.disk).seen in
    let cs = c.in-Batch.commands.now in
    let call = c.batch.ensures in
    let was = c.in_ok-batch-in-Batch.was in
    let ok = c.in_ok-batch-in-Batch.ensures in
    let P = IsLeftInStep old.settings old.store file (Batch cs) in
    let done = batch_done old.settings old.store now.store file (Batch cs) cs _ refl ok.allowed.0 ok.store ok.replies in
    as_step view failed (is_crew c.args.crew) old now (Batch cs) answer_of answer_of (step_of c.args.step) _ (ap step_of c.in-Batch.is) (record {
      done = (file, record { file = file; read = refl; done = done; words = ok.allowed.1 });
      counted = (call.rest.2, ap (λ d. g.D.Disk.failed d) call.rest.1);
      rest = (call.rest.0, subst (λ d. Kept (view old.disk) (view d)) (sym call.rest.1) (kept_self (view old.disk)));
      failed = λ bad. absurd (not_refused_too c.batch.result _ _ was (call.failed bad));
      bad_crew = λ fine bad. absurd (not_refused_too c.batch.result _ _ was (call.bad_crew fine bad));
      refused = λ _ _. tt;
      undone = tt;
      device = tt;
      bytes = λ _. rw call.rest.1 done;
      is_synced = λ is_synced. subst (λ d. IsSynced (view d)) (sym call.rest.1) is_synced;
      syncs = λ _ none. absurd none;
      crash = λ _ is_synced. subst (λ d. LeavesOnly (view old.disk) (view d) P) (sym call.rest.1) (leaves_itself (view old.disk) P (g.met.D.Disk.lawful old.disk is_synced.honest) is_synced (inl refl));
      sound = call.sound;
    })

-- ---- a flush

pub returns-in_err-flush-in-Flush : goal.returns-in_err-flush-in-Flush
returns-in_err-flush-in-Flush g c =
    let p = err_from_is_err_and c.from_residual-in_err-flush-in-Flush.result c.from_residual-in_err-flush-in-Flush.ensures.1 in
    rw (p.1, p.2) (refused_on g.D.Disk.view g.D.Disk.failed (is_crew c.args.crew) c.args.self.now c.flush.new.self Flush (λ n. Flushed n) answer_of (step_of c.args.step) _ (ap step_of c.in-Flush.is) c.in_err-flush-in-Flush.ensures.step)

pub returns-in_ok-flush-in-Flush : goal.returns-in_ok-flush-in-Flush
returns-in_ok-flush-in-Flush g c =
    answered_on g.D.Disk.view g.D.Disk.failed (is_crew c.args.crew) c.args.self.now c.flush.new.self Flush (λ n. Flushed n) answer_of (step_of c.args.step) _ _ (ap step_of c.in-Flush.is) refl c.in_ok-flush-in-Flush.ensures.step

-- ---- a clean

pub returns-in_err-clean-in-Clean : goal.returns-in_err-clean-in-Clean
returns-in_err-clean-in-Clean g c =
    let p = err_from_is_err_and c.from_residual-in_err-clean-in-Clean.result c.from_residual-in_err-clean-in-Clean.ensures.1 in
    rw (p.1, p.2) (refused_on g.D.Disk.view g.D.Disk.failed (is_crew c.args.crew) c.args.self.now c.clean.new.self Clean (λ head. Cleaned head) answer_of (step_of c.args.step) _ (ap step_of c.in-Clean.is) c.in_err-clean-in-Clean.ensures.step)

pub returns-in_ok-clean-in-Clean : goal.returns-in_ok-clean-in-Clean
returns-in_ok-clean-in-Clean g c =
    answered_on g.D.Disk.view g.D.Disk.failed (is_crew c.args.crew) c.args.self.now c.clean.new.self Clean (λ head. Cleaned head) answer_of (step_of c.args.step) _ _ (ap step_of c.in-Clean.is) refl c.in_ok-clean-in-Clean.ensures.step

-- ---- an upgrade

pub returns-in_err-upgrade-in-Upgrade : goal.returns-in_err-upgrade-in-Upgrade
returns-in_err-upgrade-in-Upgrade g c =
    let p = err_from_is_err_and c.from_residual-in_err-upgrade-in-Upgrade.result c.from_residual-in_err-upgrade-in-Upgrade.ensures.1 in
    rw (p.1, p.2) (refused_on g.D.Disk.view g.D.Disk.failed (is_crew c.args.crew) c.args.self.now c.upgrade.new.self Upgrade (λ n. Upgraded n) answer_of (step_of c.args.step) _ (ap step_of c.in-Upgrade.is) c.in_err-upgrade-in-Upgrade.ensures.step)

pub returns-in_ok-upgrade-in-Upgrade : goal.returns-in_ok-upgrade-in-Upgrade
returns-in_ok-upgrade-in-Upgrade g c =
    answered_on g.D.Disk.view g.D.Disk.failed (is_crew c.args.crew) c.args.self.now c.upgrade.new.self Upgrade (λ n. Upgraded n) answer_of (step_of c.args.step) _ _ (ap step_of c.in-Upgrade.is) refl c.in_ok-upgrade-in-Upgrade.ensures.step
