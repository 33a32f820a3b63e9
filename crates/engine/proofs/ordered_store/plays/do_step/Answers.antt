use Rattle.std.proofs.Common.{Some, [], refl, ap}
use Rattle.std.proofs.lemmas.Result.{err_from_is_err_and}
use Rattle.engine.specs.ClaimPlay.{calls_of}
use Rattle.engine.specs.Plays.{step_of}
use Rattle.engine.specs.Steps.Answer.{Flushed, Cleaned, Upgraded}
use Rattle.engine.specs.Steps.Step.{Batch, Flush, Clean, Upgrade}
use Rattle.engine.proofs.ClaimPlayLemmas.{batch_turn, call_turn, clean_stopped, either_is, next_is, only_failed, stopped_named, turn_named, unchanged_stopped, written_stopped}
use Rattle.engine.proofs.StepDone.{fine_where}
use Rattle.engine.proofs.ordered_store.plays.do_step.Goals as goal

-- ---- a batch

pub returns-in_err-batch-in-Batch : goal.returns-in_err-batch-in-Batch
returns-in_err-batch-in-Batch g c =
    let old = c.args.store.now in
    let calls = calls_of g.S.OrderedStore.after_batch g.S.OrderedStore.after_flush g.S.OrderedStore.after_clean g.S.OrderedStore.after_upgrade in
    let err = c.in_err-batch-in-Batch in
    let p = err_from_is_err_and c.from_residual.result c.from_residual.ensures.1 in
    rw (p.1, p.2) (record {
      done = tt;
      refused = unchanged_stopped g.S.OrderedStore.contents g.S.OrderedStore.settings g.S.OrderedStore.has_failed g.S.OrderedStore.state g.S.OrderedStore.disk_of g.D.Disk.view g.met.D.Disk.lawful g.S.OrderedStore.recovered calls old c.batch.new.self (step_of c.args.step) _
          (λ bad. only_failed c.batch.result _ err.was (c.batch.ensures.failed bad)) err.ensures.never err.ensures.refused;
    })

pub returns-in_ok-batch-in-Batch : goal.returns-in_ok-batch-in-Batch
returns-in_ok-batch-in-Batch g c =
    let old = c.args.store.now in
    let calls = calls_of g.S.OrderedStore.after_batch g.S.OrderedStore.after_flush g.S.OrderedStore.after_clean g.S.OrderedStore.after_upgrade in
    let ok = c.in_ok-batch-in-Batch.ensures in
    let fine = fine_where (g.S.OrderedStore.has_failed old) c.batch.result _ c.in_ok-batch-in-Batch.was c.batch.ensures.failed in
    record {
      done = turn_named g.S.OrderedStore.contents g.S.OrderedStore.settings g.S.OrderedStore.has_failed g.S.OrderedStore.state g.S.OrderedStore.disk_of g.D.Disk.view g.met.D.Disk.lawful g.S.OrderedStore.recovered calls old c.batch.new.self (Batch c.in-Batch.commands.now) (step_of c.args.step) _ _ (ap step_of c.in-Batch.is) refl
          (batch_turn g.D.Disk.view g.met.D.Disk.lawful g.S.OrderedStore.recovered calls (g.S.OrderedStore.contents old) (g.S.OrderedStore.contents c.batch.new.self) (g.S.OrderedStore.settings old) (g.S.OrderedStore.settings c.batch.new.self) (g.S.OrderedStore.has_failed old) (g.S.OrderedStore.has_failed c.batch.new.self) (g.S.OrderedStore.state old) (g.S.OrderedStore.state c.batch.new.self) (g.S.OrderedStore.disk_of old) (g.S.OrderedStore.disk_of c.batch.new.self)
          c.in-Batch.commands.now _ fine ok.replies ok.contents c.batch.ensures.rest ok.state);
      refused = tt;
    }

-- ---- flush

pub returns-in_err-flush-in-Flush : goal.returns-in_err-flush-in-Flush
returns-in_err-flush-in-Flush g c =
    let old = c.args.store.now in
    let calls = calls_of g.S.OrderedStore.after_batch g.S.OrderedStore.after_flush g.S.OrderedStore.after_clean g.S.OrderedStore.after_upgrade in
    let call = c.flush.ensures in
    let err = c.in_err-flush-in-Flush in
    let p = err_from_is_err_and c.from_residual-in_err-flush-in-Flush.result c.from_residual-in_err-flush-in-Flush.ensures.1 in
    rw (p.1, p.2) (record {
      done = tt;
      refused = stopped_named g.S.OrderedStore.contents g.S.OrderedStore.settings g.S.OrderedStore.has_failed g.S.OrderedStore.state g.S.OrderedStore.disk_of g.D.Disk.view g.met.D.Disk.lawful g.S.OrderedStore.recovered calls old c.flush.new.self Flush (step_of c.args.step) _ (ap step_of c.in-Flush.is)
          (written_stopped g.S.OrderedStore.contents g.S.OrderedStore.settings g.S.OrderedStore.has_failed g.S.OrderedStore.state g.S.OrderedStore.disk_of g.D.Disk.view g.met.D.Disk.lawful g.S.OrderedStore.recovered calls old c.flush.new.self Flush _ (λ bad. only_failed c.flush.result _ err.was (call.failed bad)) call.contents call.rest
          (Some (g.S.OrderedStore.settings old, g.S.OrderedStore.contents old)) refl err.ensures.fails.0 err.ensures.refused call.crash);
    })

pub returns-in_ok-flush-in-Flush : goal.returns-in_ok-flush-in-Flush
returns-in_ok-flush-in-Flush g c =
    let old = c.args.store.now in
    let calls = calls_of g.S.OrderedStore.after_batch g.S.OrderedStore.after_flush g.S.OrderedStore.after_clean g.S.OrderedStore.after_upgrade in
    let call = c.flush.ensures in
    let ok = c.in_ok-flush-in-Flush.ensures in
    let fine = fine_where (g.S.OrderedStore.has_failed old) c.flush.result _ c.in_ok-flush-in-Flush.was call.failed in
    let said = Flushed c.in_ok-flush-in-Flush.field-0 in
    record {
      done = turn_named g.S.OrderedStore.contents g.S.OrderedStore.settings g.S.OrderedStore.has_failed g.S.OrderedStore.state g.S.OrderedStore.disk_of g.D.Disk.view g.met.D.Disk.lawful g.S.OrderedStore.recovered calls old c.flush.new.self Flush (step_of c.args.step) said said (ap step_of c.in-Flush.is) refl
          (call_turn g.D.Disk.view g.met.D.Disk.lawful g.S.OrderedStore.recovered calls (g.S.OrderedStore.contents old) (g.S.OrderedStore.contents c.flush.new.self) (g.S.OrderedStore.settings old) (g.S.OrderedStore.settings c.flush.new.self) (g.S.OrderedStore.has_failed old) (g.S.OrderedStore.has_failed c.flush.new.self) (g.S.OrderedStore.state old) (g.S.OrderedStore.state c.flush.new.self) (g.S.OrderedStore.disk_of old) (g.S.OrderedStore.disk_of c.flush.new.self)
          Flush said (Some (g.S.OrderedStore.settings old, g.S.OrderedStore.contents old)) (c.in_ok-flush-in-Flush.field-0, [], refl, refl) refl refl fine call.contents call.rest ok.fails
          ok.durable (λ honest. next_is (g.S.OrderedStore.after_flush (g.S.OrderedStore.settings old) (g.S.OrderedStore.state old) (g.D.Disk.view (g.S.OrderedStore.disk_of old)).seen) c.in_ok-flush-in-Flush.field-0 (g.S.OrderedStore.state c.flush.new.self) (g.D.Disk.view (g.S.OrderedStore.disk_of c.flush.new.self)).seen (ok.state honest)) (λ is_synced. ok.is_synced is_synced) (λ is_synced. call.crash fine is_synced));
      refused = tt;
    }

-- ---- upgrade

pub returns-in_err-upgrade-in-Upgrade : goal.returns-in_err-upgrade-in-Upgrade
returns-in_err-upgrade-in-Upgrade g c =
    let old = c.args.store.now in
    let calls = calls_of g.S.OrderedStore.after_batch g.S.OrderedStore.after_flush g.S.OrderedStore.after_clean g.S.OrderedStore.after_upgrade in
    let call = c.upgrade.ensures in
    let err = c.in_err-upgrade-in-Upgrade in
    let p = err_from_is_err_and c.from_residual-in_err-upgrade-in-Upgrade.result c.from_residual-in_err-upgrade-in-Upgrade.ensures.1 in
    rw (p.1, p.2) (record {
      done = tt;
      refused = stopped_named g.S.OrderedStore.contents g.S.OrderedStore.settings g.S.OrderedStore.has_failed g.S.OrderedStore.state g.S.OrderedStore.disk_of g.D.Disk.view g.met.D.Disk.lawful g.S.OrderedStore.recovered calls old c.upgrade.new.self Upgrade (step_of c.args.step) _ (ap step_of c.in-Upgrade.is)
          (written_stopped g.S.OrderedStore.contents g.S.OrderedStore.settings g.S.OrderedStore.has_failed g.S.OrderedStore.state g.S.OrderedStore.disk_of g.D.Disk.view g.met.D.Disk.lawful g.S.OrderedStore.recovered calls old c.upgrade.new.self Upgrade _ (λ bad. only_failed c.upgrade.result _ err.was (call.failed bad)) call.contents call.rest
          (Some (g.S.OrderedStore.settings old, g.S.OrderedStore.contents old)) refl err.ensures.fails.0 err.ensures.refused call.crash);
    })

pub returns-in_ok-upgrade-in-Upgrade : goal.returns-in_ok-upgrade-in-Upgrade
returns-in_ok-upgrade-in-Upgrade g c =
    let old = c.args.store.now in
    let calls = calls_of g.S.OrderedStore.after_batch g.S.OrderedStore.after_flush g.S.OrderedStore.after_clean g.S.OrderedStore.after_upgrade in
    let call = c.upgrade.ensures in
    let ok = c.in_ok-upgrade-in-Upgrade.ensures in
    let fine = fine_where (g.S.OrderedStore.has_failed old) c.upgrade.result _ c.in_ok-upgrade-in-Upgrade.was call.failed in
    let said = Upgraded c.in_ok-upgrade-in-Upgrade.field-0 in
    record {
      done = turn_named g.S.OrderedStore.contents g.S.OrderedStore.settings g.S.OrderedStore.has_failed g.S.OrderedStore.state g.S.OrderedStore.disk_of g.D.Disk.view g.met.D.Disk.lawful g.S.OrderedStore.recovered calls old c.upgrade.new.self Upgrade (step_of c.args.step) said said (ap step_of c.in-Upgrade.is) refl
          (call_turn g.D.Disk.view g.met.D.Disk.lawful g.S.OrderedStore.recovered calls (g.S.OrderedStore.contents old) (g.S.OrderedStore.contents c.upgrade.new.self) (g.S.OrderedStore.settings old) (g.S.OrderedStore.settings c.upgrade.new.self) (g.S.OrderedStore.has_failed old) (g.S.OrderedStore.has_failed c.upgrade.new.self) (g.S.OrderedStore.state old) (g.S.OrderedStore.state c.upgrade.new.self) (g.S.OrderedStore.disk_of old) (g.S.OrderedStore.disk_of c.upgrade.new.self)
          Upgrade said (Some (g.S.OrderedStore.settings old, g.S.OrderedStore.contents old)) (c.in_ok-upgrade-in-Upgrade.field-0, [], refl, refl) refl refl fine call.contents call.rest ok.fails
          ok.durable (λ honest. next_is (g.S.OrderedStore.after_upgrade (g.S.OrderedStore.settings old) (g.S.OrderedStore.state old) (g.D.Disk.view (g.S.OrderedStore.disk_of old)).seen) c.in_ok-upgrade-in-Upgrade.field-0 (g.S.OrderedStore.state c.upgrade.new.self) (g.D.Disk.view (g.S.OrderedStore.disk_of c.upgrade.new.self)).seen (ok.state honest)) (λ is_synced. ok.is_synced is_synced.honest) (λ is_synced. call.crash fine is_synced));
      refused = tt;
    }

-- ---- clean

pub returns-in_err-clean-in-Clean : goal.returns-in_err-clean-in-Clean
returns-in_err-clean-in-Clean g c =
    let old = c.args.store.now in
    let calls = calls_of g.S.OrderedStore.after_batch g.S.OrderedStore.after_flush g.S.OrderedStore.after_clean g.S.OrderedStore.after_upgrade in
    let call = c.clean.ensures in
    let err = c.in_err-clean-in-Clean in
    let p = err_from_is_err_and c.from_residual-in_err-clean-in-Clean.result c.from_residual-in_err-clean-in-Clean.ensures.1 in
    rw (p.1, p.2) (record {
      done = tt;
      refused = stopped_named g.S.OrderedStore.contents g.S.OrderedStore.settings g.S.OrderedStore.has_failed g.S.OrderedStore.state g.S.OrderedStore.disk_of g.D.Disk.view g.met.D.Disk.lawful g.S.OrderedStore.recovered calls old c.clean.new.self Clean (step_of c.args.step) _ (ap step_of c.in-Clean.is)
          (clean_stopped g.S.OrderedStore.contents g.S.OrderedStore.settings g.S.OrderedStore.has_failed g.S.OrderedStore.state g.S.OrderedStore.disk_of g.D.Disk.view g.met.D.Disk.lawful g.S.OrderedStore.recovered calls old c.clean.new.self Clean _ (λ bad. only_failed c.clean.result _ err.was (call.failed bad)) call.contents call.rest
          refl err.ensures.fails err.ensures.refused (λ honest other. err.ensures.unwritten honest other) call.crash);
    })

pub returns-in_ok-clean-in-Clean : goal.returns-in_ok-clean-in-Clean
returns-in_ok-clean-in-Clean g c =
    let old = c.args.store.now in
    let calls = calls_of g.S.OrderedStore.after_batch g.S.OrderedStore.after_flush g.S.OrderedStore.after_clean g.S.OrderedStore.after_upgrade in
    let call = c.clean.ensures in
    let ok = c.in_ok-clean-in-Clean.ensures in
    let fine = fine_where (g.S.OrderedStore.has_failed old) c.clean.result _ c.in_ok-clean-in-Clean.was call.failed in
    let said = Cleaned c.in_ok-clean-in-Clean.field-0 in
    record {
      done = turn_named g.S.OrderedStore.contents g.S.OrderedStore.settings g.S.OrderedStore.has_failed g.S.OrderedStore.state g.S.OrderedStore.disk_of g.D.Disk.view g.met.D.Disk.lawful g.S.OrderedStore.recovered calls old c.clean.new.self Clean (step_of c.args.step) said said (ap step_of c.in-Clean.is) refl
          (call_turn g.D.Disk.view g.met.D.Disk.lawful g.S.OrderedStore.recovered calls (g.S.OrderedStore.contents old) (g.S.OrderedStore.contents c.clean.new.self) (g.S.OrderedStore.settings old) (g.S.OrderedStore.settings c.clean.new.self) (g.S.OrderedStore.has_failed old) (g.S.OrderedStore.has_failed c.clean.new.self) (g.S.OrderedStore.state old) (g.S.OrderedStore.state c.clean.new.self) (g.S.OrderedStore.disk_of old) (g.S.OrderedStore.disk_of c.clean.new.self)
          Clean said (g.S.OrderedStore.recovered (g.D.Disk.view (g.S.OrderedStore.disk_of old)).seen) (c.in_ok-clean-in-Clean.field-0, [], refl, refl) refl refl fine call.contents call.rest ok.fails
          (λ honest. ok.durable fine honest) (λ honest. next_is (g.S.OrderedStore.after_clean (g.S.OrderedStore.settings old) (g.S.OrderedStore.state old) (g.D.Disk.view (g.S.OrderedStore.disk_of old)).seen) c.in_ok-clean-in-Clean.field-0 (g.S.OrderedStore.state c.clean.new.self) (g.D.Disk.view (g.S.OrderedStore.disk_of c.clean.new.self)).seen (ok.state honest)) (λ is_synced. ok.is_synced is_synced.honest)
          (λ is_synced. either_is g.S.OrderedStore.recovered (g.D.Disk.view (g.S.OrderedStore.disk_of old)) (g.D.Disk.view (g.S.OrderedStore.disk_of c.clean.new.self)) (g.S.OrderedStore.recovered (g.D.Disk.view (g.S.OrderedStore.disk_of old)).seen) (call.crash fine is_synced)));
      refused = tt;
    }
