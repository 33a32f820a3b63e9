use Rattle.std.proofs.Common.{◌≡◌, true, false, ℕ, zero-add, inl, inr, subst, ⊎_elim, arith}
use Rattle.std.proofs.lemmas.Result.{err_from_is_err_and}
use Rattle.engine.specs.Cleans.{AreCleaned, AreStopped}
use Rattle.engine.specs.Refusal.{is_crew}
use Rattle.engine.specs.State.{IsSound}
use Rattle.engine.proofs.CleansLemmas.{none_cleaned, if_ok, if_err, either}
use Rattle.engine.proofs.RefusedCalls.{admitted_call, bad_crew_call, failed_call}
use Rattle.engine.proofs.store.Store.clean_many.Goals as goal

pub returns-then-self-clause-admitted : goal.returns-then-self-clause-admitted
returns-then-self-clause-admitted g c = failed_call (is_crew c.args.crew) c.args.self.now (subst (λ x. x.has_failed ≡ true) c.self.view_is c.if-self.true)

pub returns-in_err-admit_crew-clause-admitted : goal.returns-in_err-admit_crew-clause-admitted
returns-in_err-admit_crew-clause-admitted g c =
    let fine : c.args.self.now.has_failed ≡ false = subst (λ x. x.has_failed ≡ false) c.self.view_is c.if-self.false in
    let why = c.in_err-admit_crew.ensures.err in
    let p = err_from_is_err_and c.from_residual.result c.from_residual.ensures.1 in
    rw (p.1, p.2, why.0) (bad_crew_call (is_crew c.args.crew) c.args.self.now fine)

pub returns-then-most-eq0-clause-admitted : goal.returns-then-most-eq0-clause-admitted
returns-then-most-eq0-clause-admitted g c =
    let fine : c.args.self.now.has_failed ≡ false = subst (λ x. x.has_failed ≡ false) c.self.view_is c.if-self.false in
    admitted_call (is_crew c.args.crew) c.args.self.now _ _ fine c.in_ok-admit_crew.ensures.ok

pub returns-clause-admitted : goal.returns-clause-admitted
returns-clause-admitted g c =
    let fine : c.args.self.now.has_failed ≡ false = subst (λ x. x.has_failed ≡ false) c.self.view_is c.if-self.false in
    admitted_call (is_crew c.args.crew) c.args.self.now _ _ fine c.in_ok-admit_crew.ensures.ok

pub returns-then-most-eq0-clause-done : goal.returns-then-most-eq0-clause-done
returns-then-most-eq0-clause-done g c =
    let old = c.args.self.now in
    let sound : IsSound g.D.Disk.view old = rw (← c.self.view_is) c.self.invariant.sound in
    (omega arith, λ some. (let none = c.if-most-eq0.true in absurd (omega (arith, some, none))), none_cleaned g.D.Disk.view g.D.Disk.failed g.met.D.Disk.lawful old sound)

pub returns-clause-done : goal.returns-clause-done
returns-clause-done g c =
    let view = g.D.Disk.view in
    let failed = g.D.Disk.failed in
    let old = c.args.self.now in
    let new = c.clean_ahead.new.self in
    let sound : IsSound view old = rw (← c.self.view_is) c.self.invariant.sound in
    let none = none_cleaned view failed g.met.D.Disk.lawful old sound in
    if_ok c.clean_ahead.result _ _ c.clean_ahead.ensures.done
    (λ n h. (h.1, λ _. h.0, subst (λ (k : ℕ). AreCleaned view failed old k new) (zero-add n) (h.2 old 0 none)))

pub returns-clause-refused : goal.returns-clause-refused
returns-clause-refused g c fine able =
    let view = g.D.Disk.view in
    let failed = g.D.Disk.failed in
    let old = c.args.self.now in
    let new = c.clean_ahead.new.self in
    let sound : IsSound view old = rw (← c.self.view_is) c.self.invariant.sound in
    let none = none_cleaned view failed g.met.D.Disk.lawful old sound in
    if_err c.clean_ahead.result _ _ c.clean_ahead.ensures.stopped
    (λ fault h. (h.0, h.1, ⊎_elim (λ first. inl first.0) (λ device. inr device) h.2, subst (λ (k : ℕ). AreStopped view failed old new k fault) (zero-add h.0) (h.3 old 0 none)))

pub returns-clause-sound : goal.returns-clause-sound
returns-clause-sound g c =
    let view = g.D.Disk.view in
    let failed = g.D.Disk.failed in
    let old = c.args.self.now in
    let new = c.clean_ahead.new.self in
    let sound : IsSound view old = rw (← c.self.view_is) c.self.invariant.sound in
    let none = none_cleaned view failed g.met.D.Disk.lawful old sound in
    (sound, either c.clean_ahead.result _ _ c.clean_ahead.ensures.done c.clean_ahead.ensures.stopped (λ n h. (h.2 old 0 none).turn.sound) (λ fault h. (h.3 old 0 none).sound))
