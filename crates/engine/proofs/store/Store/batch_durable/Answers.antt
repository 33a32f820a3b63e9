use Rattle.std.proofs.Common.{◌≤◌, length, refl, sym, ap, subst, ◌∙◌}
use Rattle.std.proofs.lemmas.Result.{err_from_is_err_and}
use Rattle.keys.specs.declared.fault.Fault.TheVariants.{BadCrew, Failed}
use Rattle.mapping.specs.Levels.{contents}
use Rattle.engine.specs.Durable.{fault_of}
use Rattle.engine.specs.Refusal.{is_crew, longest_batch, refusal}
use Rattle.engine.proofs.DurableLemmas.{contents_by, executed_by, flushed_holds, passed_on, refused_first, refused_then, undo_as, undone_as, unwritten_by}
use Rattle.engine.proofs.DurableOnDisk.{before_batch, err, err_on_disk, nothing_on_disk, ok_on_disk, refused_never}
use Rattle.engine.proofs.RefusedCalls.{not_both}
use Rattle.engine.proofs.StepDone.{batch_without_device}
use Rattle.engine.proofs.store.Store.batch_durable.Goals as goal

-- ---- refused before the batch

pub returns-in-Err : goal.returns-in-Err
returns-in-Err g c =
    let old = c.args.self.now in
    let cs = c.args.commands.now in
    let checks = c.in-Err.ensures in
    record {
      replies = tt;
      contents = refl;
      durable = tt;
      on_disk = nothing_on_disk g.D.Disk.view g.met.D.Disk.lawful _ _ old c.in-Err.fault
          (refused_never _ (contents old.store.tree) cs c.in-Err.fault old.settings old.has_failed (is_crew c.args.crew) checks.failed checks.bad_crew checks.refused);
      failed = λ bad. (undone_as c.in-Err.fault Failed (checks.failed bad), refl);
      bad_crew = λ fine unable. (undone_as c.in-Err.fault BadCrew (checks.bad_crew fine unable), refl);
      refused = λ fine able. refused_first g.D.Disk.view g.D.Disk.failed (is_crew c.args.crew) old cs _ _ c.in-Err.fault (refusal old.settings cs) (checks.refused fine able);
    }

-- ---- the batch is refused

pub returns-in-Err-batch : goal.returns-in-Err-batch
returns-in-Err-batch g c =
    let old = c.args.self.now in
    let cs = c.args.commands.now in
    let (fine, able, none) = c.in-Ok.ensures.admitted in
    let batch = c.in-Err-batch.ensures in
    record {
      replies = tt;
      contents = ap (λ x. contents x.store.tree) batch.unchanged;
      durable = tt;
      on_disk = rw batch.unchanged (nothing_on_disk g.D.Disk.view g.met.D.Disk.lawful _ _ old c.in-Err-batch.fault
          (batch_without_device old.settings old.store cs (err _ c.in-Err-batch.fault) old.has_failed (is_crew c.args.crew) batch.failed batch.bad_crew batch.refused));
      failed = λ bad. absurd (not_both old.has_failed bad fine);
      bad_crew = λ _ unable. absurd (not_both (is_crew c.args.crew) able unable);
      refused = λ _ _. refused_then g.D.Disk.view g.D.Disk.failed (is_crew c.args.crew) old cs _ _ c.in-Err-batch.fault c.batch.new.self (refusal old.settings cs) none batch.unchanged (batch.refused fine able);
    }

-- ---- executed

pub flush_or_undo-requires-clause-fine : goal.flush_or_undo-requires-clause-fine
flush_or_undo-requires-clause-fine g c κs within = c.in-Ok-batch.ensures.rest.2 ∙ c.in-Ok.ensures.admitted.0

pub flush_or_undo-requires-clause-crew : goal.flush_or_undo-requires-clause-crew
flush_or_undo-requires-clause-crew g c κs within = c.in-Ok.ensures.admitted.1

-- the flush is refused
pub returns-in_err-flush_or_undo : goal.returns-in_err-flush_or_undo
returns-in_err-flush_or_undo g c =
    let old = c.args.self.now in
    let cs = c.args.commands.now in
    let (fine, able, none) = c.in-Ok.ensures.admitted in
    let (made, few) = c.in-Ok.ensures.made in
    let batch = c.in-Ok-batch.ensures in
    let proper = batch.sound.0.is.proper in
    let rises = c.the_contents_of_a_proper_tree_rise.ensures old.settings old.store.tree proper in
    let is = undo_as (contents old.store.tree) cs c.in-Ok.undo.items c.deref.result.now c.deref.ensures.value made in
    let short = subst (λ ds. length ds ≤ longest_batch) (sym c.deref.ensures.value) few in
    let executed = executed_by g.D.Disk.view (is_crew c.args.crew) old cs c.in-Ok-batch.replies _ c.batch.new.self batch in
    let given = c.in_err-flush_or_undo.ensures.refused in
    let p = err_from_is_err_and c.from_residual.result c.from_residual.ensures.1 in
    rw (p.1, p.2) (record {
      replies = tt;
      contents = contents_by g.D.Disk.view g.D.Disk.failed (is_crew c.args.crew) old c.batch.new.self c.flush_or_undo.new.self cs c.deref.result.now _ fine able proper rises none is short executed
          c.in_err-flush_or_undo.field-0.0 given;
      durable = tt;
      on_disk = before_batch g.D.Disk.view _ old c.batch.new.self c.flush_or_undo.new.self _ batch.rest batch.contents
          (err_on_disk g.D.Disk.view _ _ _ _ _ (fault_of c.in_err-flush_or_undo.field-0.0) c.flush_or_undo.new.self c.flush_or_undo.new.self (refl, refl, refl) c.in_err-flush_or_undo.ensures.on_disk);
      failed = λ bad. absurd (not_both old.has_failed bad fine);
      bad_crew = λ _ unable. absurd (not_both (is_crew c.args.crew) able unable);
      refused = λ _ _. passed_on (refusal old.settings cs) _ _ none
          (unwritten_by g.D.Disk.view g.D.Disk.failed (is_crew c.args.crew) old c.batch.new.self c.flush_or_undo.new.self cs c.deref.result.now _ fine able proper rises none is short executed
          c.in_err-flush_or_undo.field-0.0 given);
    })

-- flushed
pub returns : goal.returns
returns g c =
    let old = c.args.self.now in
    let cs = c.args.commands.now in
    let (fine, able, none) = c.in-Ok.ensures.admitted in
    let batch = c.in-Ok-batch.ensures in
    let flushed = c.in_ok-flush_or_undo.ensures.flushed in
    record {
      replies = batch.replies;
      contents = flushed_holds g.D.Disk.view g.D.Disk.failed c.batch.new.self c.flush_or_undo.new.self flushed ∙ batch.contents;
      durable = record { mid = c.batch.new.self; executed = executed_by g.D.Disk.view (is_crew c.args.crew) old cs c.in-Ok-batch.replies _ c.batch.new.self batch; flushed = flushed };
      on_disk = before_batch g.D.Disk.view _ old c.batch.new.self c.flush_or_undo.new.self _ batch.rest batch.contents
          (ok_on_disk g.D.Disk.view _ _ _ _ _ c.in-Ok-batch.replies c.flush_or_undo.new.self c.in_ok-flush_or_undo.ensures.on_disk);
      failed = λ bad. absurd (not_both old.has_failed bad fine);
      bad_crew = λ _ unable. absurd (not_both (is_crew c.args.crew) able unable);
      refused = λ _ _. passed_on (refusal old.settings cs) _ _ none tt;
    }
