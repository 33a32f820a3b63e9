use Rattle.std.proofs.Common.{◌≡◌, true, false, inl, refl, subst}
use Rattle.std.proofs.lemmas.Result.{err_from_is_err_and}
use Rattle.keys.specs.declared.fault.Fault.TheVariants.{BadCrew, Failed, NoMemory}
use Rattle.engine.specs.Refusal.{is_crew}
use Rattle.engine.specs.State.{IsSound}
use Rattle.engine.proofs.ClaimFlushed.{cleaning_durable, durable_from, nothing_durable, still_fine}
use Rattle.engine.proofs.CleaningLemmas.{start_holds, cleaning_holds}
use Rattle.engine.proofs.CleansLemmas.{if_ok, if_err}
use Rattle.engine.proofs.EarlyLemmas.{stopped_at_once}
use Rattle.engine.proofs.RefusedCalls.{admitted_call, bad_crew_call, failed_call, not_both}
use Rattle.engine.proofs.store.Store.flush_cleaning.Goals as goal

-- ---- the store has failed

pub returns-then-self : goal.returns-then-self
returns-then-self g c =
    let old = c.args.self.now in
    let bad : old.has_failed ≡ true = subst (λ x. x.has_failed ≡ true) c.self.view_is c.if-self.true in
    let sound : IsSound g.D.Disk.view old = rw (← c.self.view_is) c.self.invariant.sound in
    record {
      number = tt;
      flushed = tt;
      admitted = failed_call (is_crew c.args.crew) old bad;
      refused = λ fine. absurd (not_both old.has_failed bad fine);
      holds = refl;
      durable = nothing_durable g.D.Disk.view g.met.D.Disk.lawful old Failed (λ e. absurd (cc));
      sound = (sound, sound);
    }

-- ---- the crew is out of range

pub returns-in_err-admit_crew : goal.returns-in_err-admit_crew
returns-in_err-admit_crew g c =
    let old = c.args.self.now in
    let fine : old.has_failed ≡ false = subst (λ x. x.has_failed ≡ false) c.self.view_is c.if-self.false in
    let sound : IsSound g.D.Disk.view old = rw (← c.self.view_is) c.self.invariant.sound in
    let why = c.in_err-admit_crew.ensures.err in
    let p = err_from_is_err_and c.from_residual.result c.from_residual.ensures.1 in
    rw (p.1, p.2, why.0) (record {
      number = tt;
      flushed = tt;
      admitted = bad_crew_call (is_crew c.args.crew) old fine;
      refused = λ _ able. absurd (not_both (is_crew c.args.crew) able why.1);
      holds = refl;
      durable = nothing_durable g.D.Disk.view g.met.D.Disk.lawful old BadCrew (λ e. absurd (cc));
      sound = (sound, sound);
    })

-- ---- no memory to compact the tree

pub returns-in_err-compact_if_due : goal.returns-in_err-compact_if_due
returns-in_err-compact_if_due g c =
    let old = c.args.self.now in
    let fine : old.has_failed ≡ false = subst (λ x. x.has_failed ≡ false) c.self.view_is c.if-self.false in
    let sound : IsSound g.D.Disk.view old = rw (← c.self.view_is) c.self.invariant.sound in
    let err = c.in_err-compact_if_due.ensures.err in
    let p = err_from_is_err_and c.from_residual-in_err-compact_if_due.result c.from_residual-in_err-compact_if_due.ensures.1 in
    rw (p.1, p.2) (record {
      number = tt;
      flushed = tt;
      admitted = admitted_call (is_crew c.args.crew) old _ _ fine c.in_ok-admit_crew.ensures.ok;
      refused = λ _ _. (old, inl refl, stopped_at_once g.D.Disk.view g.D.Disk.failed g.met.D.Disk.lawful old c.compact_if_due.new.self _ sound err);
      holds = start_holds _ _ (inl err.1);
      durable = rw (err.0, err.1) (nothing_durable g.D.Disk.view g.met.D.Disk.lawful old NoMemory (λ e. absurd (cc)));
      sound = (sound, rw err.1 sound);
    })

-- ---- flushed, or refused later

pub returns : goal.returns
returns g c =
    let old = c.args.self.now in
    let fine : old.has_failed ≡ false = subst (λ x. x.has_failed ≡ false) c.self.view_is c.if-self.false in
    let sound : IsSound g.D.Disk.view old = rw (← c.self.view_is) c.self.invariant.sound in
    let start = c.in_ok-compact_if_due.ensures.start in
    let rows = c.flush_in_rows.ensures in
    record {
      number = rows.number;
      flushed = if_ok c.flush_in_rows.result _ _ rows.flushed (λ n h. (c.compact_if_due.new.self, start, h));
      admitted = admitted_call (is_crew c.args.crew) old _ _ fine c.in_ok-admit_crew.ensures.ok;
      refused = λ _ _. if_err c.flush_in_rows.result _ _ rows.refused (λ fault h. (c.compact_if_due.new.self, start, h));
      durable = durable_from g.D.Disk.view old c.compact_if_due.new.self c.flush_in_rows.new.self c.flush_in_rows.result start
          (cleaning_durable g.D.Disk.view c.steps_answer_as_a_map_and_are_read_back.ensures c.compact_if_due.new.self rows.sound.0 (still_fine old c.compact_if_due.new.self start fine)
          g.D.Disk.failed c.flush_in_rows.new.self c.flush_in_rows.result rows.flushed rows.refused);
      holds = cleaning_holds g.D.Disk.view g.D.Disk.failed _ _ _ c.flush_in_rows.result start rows.flushed rows.refused;
      sound = (sound, rows.sound.1);
    }
