use Rattle.std.proofs.Common.{◌≡◌, ◌≤◌, None, length, true, refl, sym, ap, subst, ◌∙◌}
use Rattle.keys.specs.declared.fault.Fault.TheVariants.{Failed}
use Rattle.mapping.specs.Levels.{contents}
use Rattle.engine.specs.Durable.{IsFlushed, IsGivenUp, fault_of}
use Rattle.engine.specs.Refusal.{longest_batch, refusal}
use Rattle.engine.specs.Undo.{undo_of_all}
use Rattle.engine.proofs.DurableLemmas.{contents_by, executed_by, passed_on, refused_first, refused_then, undo_as, undone_as, unwritten_by}
use Rattle.engine.proofs.DurableOnDisk.{before_named_batch, err, err_on_disk, nothing_on_disk, ok_on_disk, refused_never}
use Rattle.engine.proofs.RefusedCalls.{not_both}
use Rattle.engine.proofs.StepDone.{batch_without_device}
use Rattle.engine.proofs.handle.Handle.execute_or_undo.Goals as goal

-- ---- refused before the batch

pub returns-in-Err : goal.returns-in-Err
returns-in-Err g c = rw (← c.self.view_is) (
    let old = c.self.inside.store in
    let cs = c.args.commands.now in
    let checks = c.in-Err.ensures in
    record {
      replies = tt;
      contents = refl;
      durable = tt;
      on_disk = nothing_on_disk g.D.Disk.view g.met.D.Disk.lawful _ _ old c.in-Err.fault
          (refused_never _ (contents old.store.tree) cs c.in-Err.fault old.settings old.has_failed true checks.failed (λ _ unable. absurd (not_both true refl unable)) (λ fine _. checks.refused fine c.self.invariant.in_range));
      failed = λ bad. (undone_as c.in-Err.fault Failed (checks.failed bad), refl);
      refused = λ fine. refused_first g.D.Disk.view g.D.Disk.failed true old cs _ _ c.in-Err.fault (refusal old.settings cs) (checks.refused fine c.self.invariant.in_range);
    })

-- ---- the batch is refused

pub returns-in-Err-execute_all : goal.returns-in-Err-execute_all
returns-in-Err-execute_all g c =
    let old = c.args.self.now in
    let cs = c.args.commands.now in
    let (was_fine, able, had_none) = c.in-Ok.ensures.admitted in
    let fine = ap (λ x. x.has_failed) (sym c.self.view_is) ∙ was_fine in
    let none = subst (λ x. refusal x.settings cs ≡ None) c.self.view_is had_none in
    let batch = c.in-Err-execute_all.ensures in
    record {
      replies = tt;
      contents = ap (λ x. contents x.store.tree) batch.unchanged;
      durable = tt;
      on_disk = rw batch.unchanged (nothing_on_disk g.D.Disk.view g.met.D.Disk.lawful _ _ old c.in-Err-execute_all.fault
          (batch_without_device old.settings old.store cs (err _ c.in-Err-execute_all.fault) old.has_failed true batch.failed batch.bad_crew batch.refused));
      failed = λ bad. absurd (not_both old.has_failed bad fine);
      refused = λ _. refused_then g.D.Disk.view g.D.Disk.failed true old cs _ _ c.in-Err-execute_all.fault c.execute_all.new.self (refusal old.settings cs) none batch.unchanged (batch.refused fine refl);
    }

-- ---- executed

pub flush_or_undo-requires-clause-fine : goal.flush_or_undo-requires-clause-fine
flush_or_undo-requires-clause-fine g c κs within =
    ap (λ x. x.has_failed) c.self-2.view_is ∙ c.in-Ok-execute_all.ensures.rest.2 ∙ ap (λ x. x.has_failed) (sym c.self.view_is) ∙ c.in-Ok.ensures.admitted.0

pub flush_or_undo-requires-clause-crew : goal.flush_or_undo-requires-clause-crew
flush_or_undo-requires-clause-crew g c κs within = c.self-2.invariant.in_range

-- flushed
pub returns-in-Ok-flush_or_undo-clause-durable : goal.returns-in-Ok-flush_or_undo-clause-durable
returns-in-Ok-flush_or_undo-clause-durable g c =
    record {
      mid = c.execute_all.new.self;
      executed = executed_by g.D.Disk.view true c.args.self.now c.args.commands.now c.in-Ok-execute_all.replies _ c.execute_all.new.self c.in-Ok-execute_all.ensures;
      flushed = subst (λ x. IsFlushed g.D.Disk.view g.D.Disk.failed x c.flush_or_undo.new.self) c.self-2.view_is c.in-Ok-flush_or_undo.ensures.flushed;
    }

pub returns-in-Ok-flush_or_undo-clause-on_disk : goal.returns-in-Ok-flush_or_undo-clause-on_disk
returns-in-Ok-flush_or_undo-clause-on_disk g c =
    let batch = c.in-Ok-execute_all.ensures in
    ok_on_disk g.D.Disk.view _ _ _ _ _ c.in-Ok-execute_all.replies c.flush_or_undo.new.self
    (before_named_batch g.D.Disk.view _ c.args.self.now c.execute_all.new.self c.self-2.inside.store c.flush_or_undo.new.self _ c.self-2.view_is batch.rest batch.contents c.in-Ok-flush_or_undo.ensures.on_disk)

-- the flush is refused
pub returns : goal.returns
returns g c =
    let old = c.args.self.now in
    let cs = c.args.commands.now in
    let (was_fine, able, had_none) = c.in-Ok.ensures.admitted in
    let fine = ap (λ x. x.has_failed) (sym c.self.view_is) ∙ was_fine in
    let none = subst (λ x. refusal x.settings cs ≡ None) c.self.view_is had_none in
    let (made, few) = c.in-Ok.ensures.made in
    let batch = c.in-Ok-execute_all.ensures in
    let mid = c.execute_all.new.self in
    let now = c.flush_or_undo.new.self in
    let unwritten = c.in-Err-flush_or_undo.unwritten in
    let proper = batch.sound.0.is.proper in
    let rises = c.the_contents_of_a_proper_tree_rise.ensures old.settings old.store.tree proper in
    let undo = c.deref.result.now in
    let is = undo_as (contents old.store.tree) cs c.in-Ok.undo.items undo c.deref.ensures.value (made ∙ ap (λ x. undo_of_all (contents x.store.tree) cs) c.self.view_is) in
    let short = subst (λ ds. length ds ≤ longest_batch) (sym c.deref.ensures.value) few in
    let executed = executed_by g.D.Disk.view true old cs c.in-Ok-execute_all.replies _ mid batch in
    let given = subst (λ x. IsGivenUp g.D.Disk.view g.D.Disk.failed true x undo now unwritten) c.self-2.view_is
    (subst (λ b. IsGivenUp g.D.Disk.view g.D.Disk.failed b c.self-2.inside.store undo now unwritten) c.self-2.invariant.in_range c.in-Err-flush_or_undo.ensures.refused) in
    record {
      replies = tt;
      contents = contents_by g.D.Disk.view g.D.Disk.failed true old mid now cs undo _ fine refl proper rises none is short executed unwritten given;
      durable = tt;
      on_disk = err_on_disk g.D.Disk.view _ _ _ _ _ (fault_of unwritten) now now (refl, refl, refl)
          (before_named_batch g.D.Disk.view _ old mid c.self-2.inside.store now _ c.self-2.view_is batch.rest batch.contents c.in-Err-flush_or_undo.ensures.on_disk);
      failed = λ bad. absurd (not_both old.has_failed bad fine);
      refused = λ _. passed_on (refusal old.settings cs) _ _ none (unwritten_by g.D.Disk.view g.D.Disk.failed true old mid now cs undo _ fine refl proper rises none is short executed unwritten given);
    }
