use Rattle.std.proofs.Common.{◌≡◌, true, false, inl, refl, sym, subst, ⊎_elim, ◌∙◌}
use Rattle.std.proofs.lemmas.Result.{err_from_is_err_and}
use Rattle.flush_log.specs.AfterFlush.{slot_of}
use Rattle.flush_log.proofs.SlotLemmas.{ends-are}
use Rattle.flush_log.proofs.ViewLemmas.{weaker}
use Rattle.recovery.proofs.ReadBytes.{same_self}
use Rattle.engine.specs.Refusal.{is_crew}
use Rattle.engine.specs.State.{IsSound, store_in}
use Rattle.engine.specs.Steps.Answer.{Cleaned}
use Rattle.engine.specs.Steps.Step.{Clean}
use Rattle.engine.proofs.CleanDone.{cleaned-now, cleaned-sound, refused-sound}
use Rattle.engine.proofs.OneStepLemmas.{bad_crew_step, failed_step}
use Rattle.engine.proofs.RefusedCalls.{not_both}
use Rattle.engine.proofs.StepDone.{clean_done, clean_left, clean_refused}
use Rattle.engine.proofs.store.Store.clean.Goals as goal

pub clean-requires-clause-ends : goal.clean-requires-clause-ends
clean-requires-clause-ends g c = λ κs within. ends-are c.self.inside.settings (slot_of (store_in c.self.inside.tree c.self.inside.log c.self.inside.version)) c.self.invariant.sound.is.slot

-- ---- the store has failed

pub returns-then-self : goal.returns-then-self
returns-then-self g c =
    let old = c.args.self.now in
    let bad : old.has_failed ≡ true = subst (λ x. x.has_failed ≡ true) c.self.view_is c.if-self.true in
    let sound : IsSound g.D.Disk.view old = rw (← c.self.view_is) c.self.invariant.sound in
    record {
      step = failed_step g.D.Disk.view g.D.Disk.failed (is_crew c.args.crew) old Clean (λ head. Cleaned head) sound bad;
      unwritten = λ fine. absurd (not_both old.has_failed bad fine);
    }

-- ---- refused for its crew

pub returns-in_err-admit_crew : goal.returns-in_err-admit_crew
returns-in_err-admit_crew g c =
    let old = c.args.self.now in
    let fine : old.has_failed ≡ false = subst (λ x. x.has_failed ≡ false) c.self.view_is c.if-self.false in
    let sound : IsSound g.D.Disk.view old = rw (← c.self.view_is) c.self.invariant.sound in
    let why = c.in_err-admit_crew.ensures.err in
    let p = err_from_is_err_and c.from_residual.result c.from_residual.ensures.1 in
    rw (p.1, p.2, why.0) (record {
      step = bad_crew_step g.D.Disk.view g.D.Disk.failed (is_crew c.args.crew) old Clean (λ head. Cleaned head) sound (g.met.D.Disk.lawful old.disk) fine why.1;
      unwritten = λ _ _. inl (same_self (g.D.Disk.view old.disk));
    })

-- ---- done

pub invariant_of-self : goal.invariant_of-self
invariant_of-self g c =
    let s = c.self.inside.settings in
    let tree = c.self.inside.tree in
    let st = store_in tree c.self.inside.log c.self.inside.version in
    let (file, read, reported) = c.in-Ok.ensures.read in
    let (bytes, done) = reported st refl refl in
    let law = c.a_clean_keeps_the_store.ensures in
    record {
      home = c.self.invariant.home;
      counted = c.self.invariant.counted;
      sound = cleaned-sound g.D.Disk.view s st c.self.inside.disk c.clean.new.disk c.self.inside.has_failed c.self.invariant.sound c.if-self.false c.clean.ensures.kept
          (store_in tree c.committed.inside.ends c.committed.inside.version) file bytes law.kept law.step (cleaned-now _ tree c.in-Ok.committed c.committed.inside.ends _ _ c.committed.inside.version bytes c.committed.view_is done)
          (λ honest. cleaned-now _ tree c.in-Ok.committed c.committed.inside.ends _ _ c.committed.inside.version _ c.committed.view_is (c.in-Ok.ensures.written honest st refl refl));
    }

pub returns-in-Ok-clause-step : goal.returns-in-Ok-clause-step
returns-in-Ok-clause-step g c = rw (← c.self.view_is) (
    let s = c.self.inside.settings in
    let tree = c.self.inside.tree in
    let st = store_in tree c.self.inside.log c.self.inside.version in
    let view = g.D.Disk.view in
    let old = view c.self.inside.disk in
    let now = store_in tree c.committed.inside.ends c.committed.inside.version in
    let (file, read, reported) = c.in-Ok.ensures.read in
    let (bytes, done) = reported st refl refl in
    let made = cleaned-now _ tree c.in-Ok.committed c.committed.inside.ends _ _ c.committed.inside.version bytes c.committed.view_is done in
    record {
      done = (bytes, record { file = file; read = read; done = clean_done s st now file Clean bytes now.head refl refl made; words = tt });
      counted = (refl, c.in-Ok.ensures.counted);
      rest = (refl, c.clean.ensures.kept);
      failed = λ bad. absurd (not_both c.self.inside.has_failed bad c.if-self.false);
      bad_crew = λ _ bad. absurd (not_both (is_crew c.args.crew) c.in_ok-admit_crew.ensures.ok bad);
      refused = λ _ _. tt;
      undone = tt;
      device = tt;
      bytes = λ honest. clean_done s st now old.seen Clean (view c.clean.new.disk).seen now.head refl refl
          (cleaned-now _ tree c.in-Ok.committed c.committed.inside.ends _ _ c.committed.inside.version _ c.committed.view_is (c.in-Ok.ensures.written honest st refl refl));
      is_synced = λ is_synced. c.in-Ok.ensures.is_synced is_synced.honest;
      syncs = λ honest _. c.in-Ok.ensures.is_synced honest;
      crash = λ fine is_synced. weaker old (view c.clean.new.disk) _ _ (λ d left. clean_left s st old.seen Clean refl d left)
          (c.clean.ensures.crash is_synced st refl refl (c.self.invariant.sound.step fine is_synced.honest));
      sound = (c.self.invariant.sound, (invariant_of-self g c).sound);
    })

-- ---- refused

pub invariant_of-self-in-Err : goal.invariant_of-self-in-Err
invariant_of-self-in-Err g c =
    let s = c.self.inside.settings in
    let tree = c.self.inside.tree in
    let st = store_in tree c.self.inside.log c.self.inside.version in
    record {
      home = c.self.invariant.home;
      counted = c.self.invariant.counted;
      sound = refused-sound g.D.Disk.view s st c.self.inside.disk c.clean.new.disk c.self.inside.has_failed c.self.invariant.sound c.if-self.false c.clean.ensures.kept
          c.is_of_disk-self-inside.result _ _ c.is_of_disk-self-inside.ensures (λ honest. c.in-Err.ensures.unwritten honest st refl refl);
    }

pub returns-in-Err-clause-step : goal.returns-in-Err-clause-step
returns-in-Err-clause-step g c = rw (← c.self.view_is) (
    let s = c.self.inside.settings in
    let st = store_in c.self.inside.tree c.self.inside.log c.self.inside.version in
    let view = g.D.Disk.view in
    let old = view c.self.inside.disk in
    let (file, read, reported) = c.in-Err.ensures.read in
    record {
      done = tt;
      counted = tt;
      rest = (refl, c.clean.ensures.kept);
      failed = λ bad. absurd (not_both c.self.inside.has_failed bad c.if-self.false);
      bad_crew = λ _ bad. absurd (not_both (is_crew c.args.crew) c.in_ok-admit_crew.ensures.ok bad);
      refused = λ _ _. (file, read, clean_refused s st file Clean refl _ _ _ (reported st refl refl));
      undone = λ other. record {
        rest = (refl, c.clean.ensures.kept);
        store = refl;
        counted = (⊎_elim (λ yes. absurd (other yes.0)) (λ no. no.1 ∙ sym c.if-self.false) c.is_of_disk-self-inside.ensures, c.in-Err.ensures.uncounted other);
        same = λ honest. ⊎_elim (λ same. same) (λ device. absurd (other device.0)) (c.in-Err.ensures.unwritten honest st refl refl);
        sound = (invariant_of-self-in-Err g c).sound;
      };
      device = λ device. (refl, ⊎_elim (λ yes. yes.1) (λ no. absurd (no.0 device)) c.is_of_disk-self-inside.ensures, tt);
      bytes = λ _. tt;
      is_synced = λ _. tt;
      syncs = λ _ _. tt;
      crash = λ fine is_synced. weaker old (view c.clean.new.disk) _ _ (λ d left. clean_left s st old.seen Clean refl d left)
          (c.clean.ensures.crash is_synced st refl refl (c.self.invariant.sound.step fine is_synced.honest));
      sound = (c.self.invariant.sound, (invariant_of-self-in-Err g c).sound);
    })

pub returns-in-Err-clause-unwritten : goal.returns-in-Err-clause-unwritten
returns-in-Err-clause-unwritten g c = rw (← c.self.view_is) (λ fine honest.
    let tree = c.self.inside.tree in
    let log = c.self.inside.log in
    c.in-Err.ensures.unwritten honest (store_in tree log c.self.inside.version) refl refl)
