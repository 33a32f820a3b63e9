use Rattle.std.proofs.Common.{◌≡◌, None, true, false, refl, subst}
use Rattle.std.proofs.lemmas.Result.{err_from_is_err_and}
use Rattle.engine.specs.Refusal.{is_crew, refusal}
use Rattle.engine.proofs.Admitted.{passed_by, refused_by_own}
use Rattle.engine.proofs.DurableLemmas.{on_ok_of, passed_on}
use Rattle.engine.proofs.RefusedCalls.{not_both}
use Rattle.engine.proofs.store.Store.undo_for.Goals as goal

-- ---- the store has failed

pub returns-then-self : goal.returns-then-self
returns-then-self g c =
    let old = c.args.self.now in
    let bad : old.has_failed ≡ true = subst (λ x. x.has_failed ≡ true) c.self.view_is c.if-self.true in
    record {
      made = tt;
      admitted = tt;
      failed = λ _. refl;
      bad_crew = λ fine. absurd (not_both old.has_failed bad fine);
      refused = λ fine. absurd (not_both old.has_failed bad fine);
    }

-- ---- the crew is out of range

pub returns-in_err-admit_crew : goal.returns-in_err-admit_crew
returns-in_err-admit_crew g c =
    let old = c.args.self.now in
    let fine : old.has_failed ≡ false = subst (λ x. x.has_failed ≡ false) c.self.view_is c.if-self.false in
    let why = c.in_err-admit_crew.ensures.err in
    let p = err_from_is_err_and c.from_residual.result c.from_residual.ensures.1 in
    rw (p.1, p.2, why.0) (record {
      made = tt;
      admitted = tt;
      failed = λ bad. absurd (not_both old.has_failed bad fine);
      bad_crew = λ _ _. refl;
      refused = λ _ able. absurd (not_both (is_crew c.args.crew) able why.1);
    })

-- ---- the commands are refused

pub returns-in_err-admit : goal.returns-in_err-admit
returns-in_err-admit g c =
    let p = err_from_is_err_and c.from_residual-in_err-admit.result c.from_residual-in_err-admit.ensures.1 in
    rw (← c.self.view_is) (rw (p.1, p.2) (record {
      made = tt;
      admitted = tt;
      failed = λ bad. absurd (not_both c.self.inside.has_failed bad c.if-self.false);
      bad_crew = λ _ bad. absurd (not_both (is_crew c.args.crew) c.in_ok-admit_crew.ensures.ok bad);
      refused = λ _ _. refused_by_own _ (refusal c.self.inside.settings c.args.commands.now) c.admit.result tt _ _ c.admit.ensures c.in_err-admit.was;
    }))

-- ---- the undo commands

pub returns : goal.returns
returns g c =
    let old = c.args.self.now in
    let fine : old.has_failed ≡ false = subst (λ x. x.has_failed ≡ false) c.self.view_is c.if-self.false in
    let own = passed_by (refusal c.self.inside.settings c.args.commands.now) c.admit.result tt c.in_ok-admit.field-0 c.admit.ensures c.in_ok-admit.was in
    let none = subst (λ x. refusal x.settings c.args.commands.now ≡ None) c.self.view_is own in
    record {
      made = c.undo_of.ensures.made;
      admitted = on_ok_of c.undo_of.result (fine, c.in_ok-admit_crew.ensures.ok, none);
      failed = λ bad. absurd (not_both old.has_failed bad fine);
      bad_crew = λ _ bad. absurd (not_both (is_crew c.args.crew) c.in_ok-admit_crew.ensures.ok bad);
      refused = λ _ _. passed_on (refusal old.settings c.args.commands.now) _ _ none c.undo_of.ensures.refused;
    }
