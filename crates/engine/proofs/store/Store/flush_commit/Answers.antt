use Rattle.std.proofs.Common.{◌≡◌, ◌≢◌, Bool, true, false, [], subst}
use Rattle.std.proofs.lemmas.Result.{err_from_is_err_and}
use Rattle.flush_log.specs.FlushText.{flush_frames}
use Rattle.engine.specs.Refusal.{is_crew}
use Rattle.engine.specs.State.{State, IsSound, state_of, store_in}
use Rattle.engine.specs.Steps.Answer.{Flushed}
use Rattle.engine.specs.Steps.Step.{Flush}
use Rattle.engine.proofs.OneStepLemmas.{admitted_step, bad_crew_step, failed_step}
use Rattle.engine.proofs.RefusedCalls.{not_both}
use Rattle.engine.proofs.SplitLemmas.{unplanned_step}
use Rattle.engine.proofs.store.Store.flush_commit.Goals as goal

pub returns-then-self : goal.returns-then-self
returns-then-self g c =
    let old = c.args.self.now in
    let bad : old.has_failed ≡ true = subst (λ x. x.has_failed ≡ true) c.self.view_is c.if-self.true in
    let sound : IsSound g.D.Disk.view old = rw (← c.self.view_is) c.self.invariant.sound in
    record { commit = tt; refused = failed_step g.D.Disk.view g.D.Disk.failed (is_crew c.args.crew) old Flush (λ n. Flushed n) sound bad }

pub returns-in_err-admit_crew : goal.returns-in_err-admit_crew
returns-in_err-admit_crew g c =
    let old = c.args.self.now in
    let fine : old.has_failed ≡ false = subst (λ x. x.has_failed ≡ false) c.self.view_is c.if-self.false in
    let sound : IsSound g.D.Disk.view old = rw (← c.self.view_is) c.self.invariant.sound in
    let why = c.in_err-admit_crew.ensures.err in
    let p = err_from_is_err_and c.from_residual.result c.from_residual.ensures.1 in
    rw (p.1, p.2, why.0) (record {
      commit = tt;
      refused = bad_crew_step g.D.Disk.view g.D.Disk.failed (is_crew c.args.crew) old Flush (λ n. Flushed n) sound (g.met.D.Disk.lawful old.disk) fine why.1;
    })

pub returns-then-is_all_written : goal.returns-then-is_all_written
returns-then-is_all_written g c = rw (← c.self.view_is) (record {
  commit = (c.if-self.false, c.in_ok-admit_crew.ensures.ok, (c.is_all_written.ensures c.self.inside.version).0 c.if-is_all_written.true);
  refused = tt;
})

pub plan-requires-clause-store : goal.plan-requires-clause-store
plan-requires-clause-store g c κs within = (c.self.inside.version, c.self.invariant.sound.is)

pub plan-requires-clause-some : goal.plan-requires-clause-some
plan-requires-clause-some g c κs within = λ none. not_both c.is_all_written.result ((c.is_all_written.ensures c.self.inside.version).1 none) c.if-is_all_written.false

pub returns-in_err-commit : goal.returns-in_err-commit
returns-in_err-commit g c = rw (← c.self.view_is) (
    let s = c.self.inside.settings in
    let st = store_in c.self.inside.tree c.self.inside.log c.self.inside.version in
    let disk = c.self.inside.disk in
    let view = g.D.Disk.view in
    let failed = g.D.Disk.failed in
    let state : Bool → State g.row.D.Denot = λ b. state_of s c.self.inside.tree c.self.inside.log c.self.inside.version disk b in
    let fine : c.self.inside.has_failed ≡ false = c.if-self.false in
    let sound : IsSound view (state false) = subst (λ b. IsSound view (state b)) fine c.self.invariant.sound in
    let some : flush_frames st.version st.tree ≢ [] = λ none. not_both c.is_all_written.result ((c.is_all_written.ensures c.self.inside.version).1 none) c.if-is_all_written.false in
    let p = err_from_is_err_and c.from_residual-in_err-commit.result c.from_residual-in_err-commit.ensures.1 in
    rw (p.1, p.2) (record {
      commit = tt;
      refused = admitted_step view failed (is_crew c.args.crew) _ _ Flush (λ n. Flushed n) _ c.in_ok-admit_crew.ensures.ok (rw fine (unplanned_step view failed s st disk (g.met.D.Disk.lawful disk) sound some _ c.in_err-commit.ensures.err));
    }))

pub returns : goal.returns
returns g c = rw (← c.self.view_is) (
    let st = store_in c.self.inside.tree c.self.inside.log c.self.inside.version in
    let some : flush_frames st.version st.tree ≢ [] = λ none. not_both c.is_all_written.result ((c.is_all_written.ensures c.self.inside.version).1 none) c.if-is_all_written.false in
    record {
      commit = (c.if-self.false, c.in_ok-admit_crew.ensures.ok, (some, c.in_ok-commit.ensures.plan c.self.inside.version));
      refused = tt;
    })
