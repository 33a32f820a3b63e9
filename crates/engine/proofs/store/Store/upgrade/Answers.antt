use Rattle.std.proofs.Common.{◌≡◌, ◌≢◌, rules, true, false, IfErr, refl, sym, subst}
use Rattle.std.proofs.lemmas.Result.{err_from_is_err_and}
use Rattle.keys.specs.declared.fault.Fault.TheVariants.{AlreadyUpgraded}
use Rattle.keys.specs.declared.version.Version.TheVariants.{Two}
use Rattle.flush_log.specs.declared.text.CommitKind.TheVariants as texts
use Rattle.engine.specs.Refusal.{is_crew}
use Rattle.engine.specs.State.{IsSound}
use Rattle.engine.specs.Steps.Answer.{Upgraded}
use Rattle.engine.specs.Steps.Step.{Upgrade}
use Rattle.engine.proofs.AsBefore.{text_as_before}
use Rattle.engine.proofs.FlushDone.{upgraded-already}
use Rattle.engine.proofs.OneStepLemmas.{admitted_step, already_no_device, bad_crew_step, failed_step, right_step, upgraded_right}
use Rattle.engine.proofs.RefusedCalls.{not_both}
use Rattle.engine.proofs.TextSteps.{IsWritingFault}
use Rattle.engine.proofs.store.Store.upgrade.Goals as goal

-- ---- the store has failed

pub returns-then-self : goal.returns-then-self
returns-then-self g c =
    let old = c.args.self.now in
    let bad : old.has_failed ≡ true = subst (λ x. x.has_failed ≡ true) c.self.view_is c.if-self.true in
    let sound : IsSound g.D.Disk.view old = rw (← c.self.view_is) c.self.invariant.sound in
    record {
      step = failed_step g.D.Disk.view g.D.Disk.failed (is_crew c.args.crew) old Upgrade (λ n. Upgraded n) sound bad;
      version = tt;
      already = λ fine. absurd (not_both old.has_failed bad fine);
      nothing = λ _. refl;
    }

-- ---- the crew is out of range

pub returns-in_err-admit_crew : goal.returns-in_err-admit_crew
returns-in_err-admit_crew g c =
    let old = c.args.self.now in
    let fine : old.has_failed ≡ false = subst (λ x. x.has_failed ≡ false) c.self.view_is c.if-self.false in
    let sound : IsSound g.D.Disk.view old = rw (← c.self.view_is) c.self.invariant.sound in
    let why = c.in_err-admit_crew.ensures.err in
    let p = err_from_is_err_and c.from_residual.result c.from_residual.ensures.1 in
    rw (p.1, p.2, why.0) (record {
      step = bad_crew_step g.D.Disk.view g.D.Disk.failed (is_crew c.args.crew) old Upgrade (λ n. Upgraded n) sound (g.met.D.Disk.lawful old.disk) fine why.1;
      version = tt;
      already = λ _ able. absurd (not_both (is_crew c.args.crew) able why.1);
      nothing = λ _. refl;
    })

-- ---- the log has version 2

pub returns-then-eq-clause-step : goal.returns-then-eq-clause-step
returns-then-eq-clause-step g c =
    let old = c.args.self.now in
    let fine : old.has_failed ≡ false = subst (λ x. x.has_failed ≡ false) c.self.view_is c.if-self.false in
    let sound : IsSound g.D.Disk.view old = rw (← c.self.view_is) c.self.invariant.sound in
    let two : old.store.version ≡ Two = search rules in
    right_step g.D.Disk.view g.D.Disk.failed (is_crew c.args.crew) old Upgrade (λ n. Upgraded n) sound (g.met.D.Disk.lawful old.disk)
    AlreadyUpgraded fine c.in_ok-admit_crew.ensures.ok already_no_device (upgraded_right old.settings old.store (g.D.Disk.view old.disk).seen two) refl

-- ---- written

pub returns : goal.returns
returns g c =
    let old = c.args.self.now in
    let fine : old.has_failed ≡ false = subst (λ x. x.has_failed ≡ false) c.self.view_is c.if-self.false in
    let not_two : old.store.version ≢ Two = (λ two.
    let here = subst (λ x. x.store.version ≡ Two) (sym c.self.view_is) two in
    let same = rw here at c.eq.ensures in
    let no = c.if-eq.false in
    cc) in
    let wrote = c.write.ensures in
    let file = (g.D.Disk.view old.disk).seen in
    let refused = (text_as_before g.D.Disk.view g.D.Disk.failed true texts.Upgrade old c.write.new.self tt c.write.result wrote.step).refused fine refl in
    record {
      step = admitted_step g.D.Disk.view g.D.Disk.failed (is_crew c.args.crew) old _ Upgrade (λ n. Upgraded n) _ c.in_ok-admit_crew.ensures.ok wrote.step;
      version = wrote.version;
      already = λ _ _. (
        (λ two. absurd (not_two two)),
        (λ is. upgraded-already old.settings old.store file _ _
            (subst (λ r. IfErr r (IsWritingFault texts.Upgrade old.settings old.store file (g.D.Disk.failed old.disk) (g.D.Disk.failed c.write.new.self.disk))) is refused)),
      );
      nothing = λ two. absurd (not_two two);
    }
