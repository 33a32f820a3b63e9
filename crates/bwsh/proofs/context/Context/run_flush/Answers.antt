use Rattle.std.proofs.Common.{◌≡◌, ◌⊎◌, ◌∙◌, ap, inl, inr, subst, sym, false, Result}
use Rattle.std.specs.Prelude.{is_err}
use Rattle.std.proofs.lemmas.Result.{err_from_is_err_and}
use Rattle.bwsh.specs.declared.order.Order.TheVariants.{Flush}
use Rattle.bwsh.specs.declared.session.SessionError.{SessionError}
use Rattle.bwsh.specs.Session.{RunsOrder}
use Rattle.bwsh.proofs.RunLemmas.{device_err, err_device}
use Rattle.bwsh.proofs.FlushLemmas.{flush_ready}
use Rattle.bwsh.proofs.TidiedLemmas.{RunsOrder-late, RunsOrder-untidied, TidiesTo-batches, held_by, late_or, refused_if}
use Rattle.bwsh.proofs.context.Context.run_flush.Goals as goal
use Rattle.bwsh.proofs.context.Context.run_flush.Goals.{else-self-via-then-self+else-is_err, else-self-via-else-self}

-- the flush is refused, because the store could not be tidied
pub returns-then-is_err-clause-runs : goal.returns-then-is_err-clause-runs
returns-then-is_err-clause-runs g c =
    let mode = c.args.self.now.mode in
    let store = c.args.store.now in
    let disk = g.D.Disk.view store.disk in
    let out = g.O.Write.contents c.args.out.now in
    let ready = c.tidy_if_asked-tidied.new.store in
    let tidied = c.tidy_if_asked-tidied.ensures in
    let failed = refused_if c.tidy_if_asked-tidied.result tidied.end (sym c.is_err.ensures.value ∙ c.if-is_err.true) in
    subst (λ (r : Result (Unit {0}) SessionError). RunsOrder mode disk.is_honest store.settings store.store disk.seen Flush out out r ready.store (g.D.Disk.view ready.disk).seen) (sym failed)
    (RunsOrder-untidied mode disk.is_honest store.settings store.store disk.seen out ready.store (TidiesTo-batches mode store.settings store.store ready.store tidied.tidied)
    (g.D.Disk.view ready.disk).seen (λ h. ap (λ d. (g.D.Disk.view d).seen) tidied.rest.1))

pub returns-then-is_err-clause-rest : goal.returns-then-is_err-clause-rest
returns-then-is_err-clause-rest g c =
    let store = c.args.store.now in
    let ready = c.tidy_if_asked-tidied.new.store in
    let tidied = c.tidy_if_asked-tidied.ensures in
    let by = TidiesTo-batches c.args.self.now.mode store.settings store.store ready.store tidied.tidied in (
      (tidied.rest.0, ap (λ d. (g.D.Disk.view d).is_honest) tidied.rest.1, λ other. tidied.rest.2),
      held_by store.settings by.tidying store.store ready.store by.leaves,
    )

-- what holds for the flush of the tidied store holds for the store with its settings, on the same disk
pub returns-in_err-flush_tidied-clause-runs : goal.returns-in_err-flush_tidied-clause-runs
returns-in_err-flush_tidied-clause-runs g c =
    let mode = c.args.self.now.mode in
    let store = c.args.store.now in
    let ready = c.tidy_if_asked-tidied.new.store in
    let tidied = c.tidy_if_asked-tidied.ensures in
    let after = c.flush_tidied.new.store in
    let p = err_from_is_err_and c.from_residual.result c.from_residual.ensures.1 in
    rw (p.1, p.2)
    (flush_ready g.D.Disk.view mode store ready tidied.rest tidied.tidied (g.O.Write.contents c.args.out.now) (g.O.Write.contents c.flush_tidied.new.out) _ after.store (g.D.Disk.view after.disk).seen
    c.in_err-flush_tidied.ensures.runs)

pub returns-in_err-flush_tidied-clause-rest : goal.returns-in_err-flush_tidied-clause-rest
returns-in_err-flush_tidied-clause-rest g c =
    let store = c.args.store.now in
    let ready = c.tidy_if_asked-tidied.new.store in
    let tidied = c.tidy_if_asked-tidied.ensures in
    let flushed = c.in_err-flush_tidied.ensures in
    let by = TidiesTo-batches c.args.self.now.mode store.settings store.store ready.store tidied.tidied in
    let p = err_from_is_err_and c.from_residual.result c.from_residual.ensures.1 in
    rw (p.1, p.2) (
      (
        flushed.rest.0.0 ∙ tidied.rest.0,
        flushed.rest.0.1 ∙ ap (λ d. (g.D.Disk.view d).is_honest) tidied.rest.1,
        λ other. flushed.rest.0.2 (device_err _ (err_device _ other)) ∙ tidied.rest.2,
      ),
      flushed.rest.1 ∙ held_by store.settings by.tidying store.store ready.store by.leaves,
    )

pub returns-clause-runs : goal.returns-clause-runs
returns-clause-runs g c =
    let mode = c.args.self.now.mode in
    let store = c.args.store.now in
    let disk = g.D.Disk.view store.disk in
    let ready = c.tidy_if_asked-tidied.new.store in
    let tidied = c.tidy_if_asked-tidied.ensures in
    let after = c.flush_tidied.new.store in
    let how : (mode.stream ≡ false) ⊎ (is_err c.tidy_if_asked-tidied.result ≡ false) = elim c.else-self.branch [
      | else-self-via-then-self+else-is_err w ↦ inr (sym w.is_err.ensures.value ∙ w.if-is_err.false)
      | else-self-via-else-self w ↦ inl w.if-self.false
    ] in
    RunsOrder-late mode disk.is_honest store.settings store.store disk.seen (g.O.Write.contents c.args.out.now) (g.O.Write.contents c.flush_tidied.new.out) tt c.tidy_if_asked-tidied.result
    after.store (g.D.Disk.view after.disk).seen
    (flush_ready g.D.Disk.view mode store ready tidied.rest tidied.tidied (g.O.Write.contents c.args.out.now) (g.O.Write.contents c.flush_tidied.new.out) _ after.store (g.D.Disk.view after.disk).seen
    c.in_ok-flush_tidied.ensures.runs) (late_or mode.stream c.tidy_if_asked-tidied.result tidied.end how)

pub returns-clause-rest : goal.returns-clause-rest
returns-clause-rest g c =
    let store = c.args.store.now in
    let ready = c.tidy_if_asked-tidied.new.store in
    let tidied = c.tidy_if_asked-tidied.ensures in
    let flushed = c.in_ok-flush_tidied.ensures in
    let by = TidiesTo-batches c.args.self.now.mode store.settings store.store ready.store tidied.tidied in (
      (
        flushed.rest.0.0 ∙ tidied.rest.0,
        flushed.rest.0.1 ∙ ap (λ d. (g.D.Disk.view d).is_honest) tidied.rest.1,
        λ other. flushed.rest.0.2 (λ e. absurd (cc)) ∙ tidied.rest.2,
      ),
      flushed.rest.1 ∙ held_by store.settings by.tidying store.store ready.store by.leaves,
    )
