use Rattle.std.proofs.Common.{◌≡◌, true, false, refl, ap, subst, ◌∙◌, arith}
use Rattle.std.proofs.lemmas.Result.{err_from_is_err_and}
use Rattle.flush_log.specs.FlushText.{flush_frames}
use Rattle.flush_log.specs.Slot.{Slot}
use Rattle.engine.specs.Refusal.{is_crew}
use Rattle.engine.specs.State.{store_in}
use Rattle.engine.proofs.PendingLemmas.{nothing-added, some-left, flush-refused, tail-not-below, flush-adds}
use Rattle.engine.proofs.RefusedCalls.{admitted_call, bad_crew_call, failed_call, not_both}
use Rattle.engine.proofs.store.Store.pending_bytes.Goals as goal

-- ---- the store has failed

pub returns-then-self : goal.returns-then-self
returns-then-self g c =
    let old = c.args.self.now in
    let bad : old.has_failed ≡ true = subst (λ x. x.has_failed ≡ true) c.self.view_is c.if-self.true in
    record {
      bytes = tt;
      nothing = λ fine. absurd (not_both old.has_failed bad fine);
      admitted = failed_call (is_crew c.args.crew) old bad;
      refused = λ fine. absurd (not_both old.has_failed bad fine);
    }

-- ---- the crew is out of range

pub returns-in_err-admit_crew : goal.returns-in_err-admit_crew
returns-in_err-admit_crew g c =
    let old = c.args.self.now in
    let fine : old.has_failed ≡ false = subst (λ x. x.has_failed ≡ false) c.self.view_is c.if-self.false in
    let why = c.in_err-admit_crew.ensures.err in
    let p = err_from_is_err_and c.from_residual.result c.from_residual.ensures.1 in
    rw (p.1, p.2, why.0) (record {
      bytes = tt;
      nothing = λ _ able. absurd (not_both (is_crew c.args.crew) able why.1);
      admitted = bad_crew_call (is_crew c.args.crew) old fine;
      refused = λ _ able. absurd (not_both (is_crew c.args.crew) able why.1);
    })

-- ---- nothing is to be written

pub returns-then-is_all_written : goal.returns-then-is_all_written
returns-then-is_all_written g c = rw (← c.self.view_is) (
    let st = store_in c.self.inside.tree c.self.inside.log c.self.inside.version in
    record {
      bytes = nothing-added c.self.inside.settings st ((c.is_all_written.ensures st.version).0 c.if-is_all_written.true);
      nothing = λ _ _ _. refl;
      admitted = admitted_call (is_crew c.args.crew) _ _ _ c.if-self.false c.in_ok-admit_crew.ensures.ok;
      refused = λ _ _. tt;
    })

-- ---- something is

pub plan-requires-clause-store : goal.plan-requires-clause-store
plan-requires-clause-store g c κs within = (c.self.inside.version, c.self.invariant.sound.is)

pub plan-requires-clause-some : goal.plan-requires-clause-some
plan-requires-clause-some g c κs within =
    let st = store_in c.self.inside.tree c.self.inside.log c.self.inside.version in
    some-left c.is_all_written.result (flush_frames st.version st.tree) (c.is_all_written.ensures st.version) c.if-is_all_written.false

pub returns-in_err-commit : goal.returns-in_err-commit
returns-in_err-commit g c = rw (← c.self.view_is) (
    let st = store_in c.self.inside.tree c.self.inside.log c.self.inside.version in
    let due = some-left c.is_all_written.result (flush_frames st.version st.tree) (c.is_all_written.ensures st.version) c.if-is_all_written.false in
    let p = err_from_is_err_and c.from_residual-in_err-commit.result c.from_residual-in_err-commit.ensures.1 in
    rw (p.1, p.2) (record {
      bytes = tt;
      nothing = λ _ _ none. absurd (due none);
      admitted = admitted_call (is_crew c.args.crew) _ _ _ c.if-self.false c.in_ok-admit_crew.ensures.ok;
      refused = λ _ _. flush-refused c.self.inside.settings st due _ c.in_err-commit.ensures.err;
    }))

pub overflow_sub-result : goal.overflow_sub-result
overflow_sub-result g c =
    let st = store_in c.self.inside.tree c.self.inside.log c.self.inside.version in
    let due = some-left c.is_all_written.result (flush_frames st.version st.tree) (c.is_all_written.ensures st.version) c.if-is_all_written.false in
    let up = tail-not-below c.self.inside.settings st due _ (c.in_ok-commit.ensures.plan st.version) c.self.invariant.sound.is.good in
    let same = ap (λ (t : Slot). t.tail) (c.slot.view_is ∙ c.slot-slot.ensures) in
    omega (arith, up, same)

pub returns : goal.returns
returns g c = rw (← c.self.view_is) (
    let st = store_in c.self.inside.tree c.self.inside.log c.self.inside.version in
    let due = some-left c.is_all_written.result (flush_frames st.version st.tree) (c.is_all_written.ensures st.version) c.if-is_all_written.false in
    let p = c.in_ok-commit.ensures.plan st.version in
    let up = tail-not-below c.self.inside.settings st due _ p c.self.invariant.sound.is.good in
    let same = ap (λ (t : Slot). t.tail) (c.slot.view_is ∙ c.slot-slot.ensures) in
    record {
      bytes = flush-adds c.self.inside.settings st due _ p _ (omega (arith, up, same));
      nothing = λ _ _ none. absurd (due none);
      admitted = admitted_call (is_crew c.args.crew) _ _ _ c.if-self.false c.in_ok-admit_crew.ensures.ok;
      refused = λ _ _. tt;
    })
