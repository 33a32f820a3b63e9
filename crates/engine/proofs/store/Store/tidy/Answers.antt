use Rattle.std.proofs.Common.{◌≡◌, true, false, refl, inl, sym, subst, ◌∙◌}
use Rattle.std.proofs.lemmas.Result.{err_from_is_err_and}
use Rattle.engine.specs.Refusal.{is_crew}
use Rattle.engine.specs.Tidied.{IsTidied, IsTidyFault}
use Rattle.engine.proofs.RefusedCalls.{admitted_call, bad_crew_call, failed_call, not_both}
use Rattle.engine.proofs.TidyLemmas.{tidied_further, untouched}
use Rattle.engine.proofs.store.Store.tidy.Goals as goal

-- ---- the store has failed

pub returns-then-self : goal.returns-then-self
returns-then-self g c =
    let old = c.args.self.now in
    let bad : old.has_failed ≡ true = subst (λ x. x.has_failed ≡ true) c.self.view_is c.if-self.true in
    record {
      tidied = untouched _ _ _ refl;
      pages = tt;
      rest = (refl, refl, refl);
      admitted = failed_call (is_crew c.args.crew) old bad;
      refused = λ fine. absurd (not_both old.has_failed bad fine);
    }

-- ---- the crew is out of range

pub returns-in_err-admit_crew : goal.returns-in_err-admit_crew
returns-in_err-admit_crew g c =
    let old = c.args.self.now in
    let fine : old.has_failed ≡ false = subst (λ x. x.has_failed ≡ false) c.self.view_is c.if-self.false in
    let why = c.in_err-admit_crew.ensures.err in
    let p = err_from_is_err_and c.from_residual.result c.from_residual.ensures.1 in
    rw (p.1, p.2, why.0) (record {
      tidied = untouched _ _ _ refl;
      pages = tt;
      rest = (refl, refl, refl);
      admitted = bad_crew_call (is_crew c.args.crew) old fine;
      refused = λ _ able. absurd (not_both (is_crew c.args.crew) able why.1);
    })

-- ---- no memory for the list of leaves

pub returns-in_err-thin : goal.returns-in_err-thin
returns-in_err-thin g c =
    let old = c.args.self.now in
    let fine : old.has_failed ≡ false = subst (λ x. x.has_failed ≡ false) c.self.view_is c.if-self.false in
    let p = err_from_is_err_and c.from_residual-in_err-thin.result c.from_residual-in_err-thin.ensures.1 in
    rw (p.1, p.2) (record {
      tidied = untouched _ _ _ refl;
      pages = tt;
      rest = (refl, refl, refl);
      admitted = admitted_call (is_crew c.args.crew) old _ _ fine c.in_ok-admit_crew.ensures.ok;
      refused = λ _ _. inl refl;
    })

-- ---- the batches

pub loop-round-init : goal.loop-round-init
loop-round-init g c = record {
  tidied = untouched _ _ _ refl;
  settings = refl;
  disk = refl;
  fine = subst (λ x. x.has_failed ≡ false) c.self.view_is c.if-self.false;
}

pub returns-in_err-tidy_once : goal.returns-in_err-tidy_once
returns-in_err-tidy_once g c =
    let old = c.args.self.now in
    let fine : old.has_failed ≡ false = subst (λ x. x.has_failed ≡ false) c.self.view_is c.if-self.false in
    let inv = c.loop-round.invariant in
    let once = c.tidy_once.ensures in
    let more : IsTidied old.settings c.loop-round.self.store c.tidy_once.new.self.store = subst (λ s. IsTidied s c.loop-round.self.store c.tidy_once.new.self.store) inv.settings once.tidied in
    let p = err_from_is_err_and c.from_residual-in_err-tidy_once.result c.from_residual-in_err-tidy_once.ensures.1 in
    rw (p.1, p.2) (record {
      tidied = tidied_further old.settings old.store c.loop-round.self.store c.tidy_once.new.self.store inv.tidied more;
      pages = tt;
      rest = (once.rest.0 ∙ inv.settings, once.rest.1 ∙ inv.disk, once.rest.2 ∙ inv.fine ∙ sym fine);
      admitted = admitted_call (is_crew c.args.crew) old _ _ fine c.in_ok-admit_crew.ensures.ok;
      refused = λ _ _. subst (λ s. IsTidyFault s c.in_err-tidy_once.field-0.0) inv.settings c.in_err-tidy_once.ensures.refused;
    })

pub loop-round-preserved : goal.loop-round-preserved
loop-round-preserved g c =
    let old = c.args.self.now in
    let inv = c.loop-round.invariant in
    let once = c.tidy_once.ensures in
    let more : IsTidied old.settings c.loop-round.self.store c.tidy_once.new.self.store = subst (λ s. IsTidied s c.loop-round.self.store c.tidy_once.new.self.store) inv.settings once.tidied in
    record {
      tidied = tidied_further old.settings old.store c.loop-round.self.store c.tidy_once.new.self.store inv.tidied more;
      settings = once.rest.0 ∙ inv.settings;
      disk = once.rest.1 ∙ inv.disk;
      fine = once.rest.2 ∙ inv.fine;
    }
