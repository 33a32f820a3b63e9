use Rattle.std.proofs.Common.{◌∙◌, inr, sym, arith}
use Rattle.std.proofs.lemmas.Result.{err_from_is_err_and}
use Rattle.engine.specs.State.{IsSound}
use Rattle.engine.proofs.CleansLemmas.{none_on, if_ok, if_err}
use Rattle.engine.proofs.EarlyLemmas.{memory_on}
use Rattle.engine.proofs.RowsLemmas.{calm_moved, calm_unhelped, true_false}
use Rattle.engine.proofs.store.Store.clean_if_worth.Goals as goal

pub returns-in_err-may_help-clause-stopped : goal.returns-in_err-may_help-clause-stopped
returns-in_err-may_help-clause-stopped g c =
    let sound : IsSound g.D.Disk.view c.args.self.now = rw (← c.self.view_is) c.self.invariant.sound in
    let memory = c.in_err-may_help.ensures.err in
    let p = err_from_is_err_and c.from_residual.result c.from_residual.ensures.1 in
    rw (p.1, p.2) (inr memory, 0, c.requires.ready.some, omega arith, λ some. absurd (omega (arith, some)), memory_on g.D.Disk.view g.D.Disk.failed g.met.D.Disk.lawful c.args.self.now c.requires.ready.fine _ _ memory sound c.requires.ready.held)

pub returns-then-branch-clause-done : goal.returns-then-branch-clause-done
returns-then-branch-clause-done g c =
    let sound : IsSound g.D.Disk.view c.args.self.now = rw (← c.self.view_is) c.self.invariant.sound in
    let helps = c.in_ok-may_help.ensures.exact.0 c.if-branch.true in
    if_ok c.clean_row_early.result _ _ c.clean_row_early.ensures.done
    (λ e h. (h.0, h.1, λ some. (helps, (h.2 some).1), λ none. calm_moved g.D.Disk.view g.D.Disk.failed g.met.D.Disk.lawful c.args.self.now c.clean_row_early.new.self e.0 none sound h.1 (h.3 none), h.4))

pub returns-then-branch-clause-stopped : goal.returns-then-branch-clause-stopped
returns-then-branch-clause-stopped g c =
    if_err c.clean_row_early.result _ _ c.clean_row_early.ensures.stopped (λ fault h. (h.0, h.1, h.2, h.3, λ _. c.in_ok-may_help.ensures.exact.0 c.if-branch.true, h.5))

pub returns-clause-done : goal.returns-clause-done
returns-clause-done g c = (
  omega arith,
  none_on g.D.Disk.view g.D.Disk.failed g.met.D.Disk.lawful c.args.self.now,
  λ some. absurd (omega (arith, some)),
  λ _. calm_unhelped g.D.Disk.view g.D.Disk.failed g.met.D.Disk.lawful c.args.self.now _ c.requires.ready.held.live (λ both. absurd (true_false (sym (c.in_ok-may_help.ensures.exact.1 both) ∙ c.if-branch.false))),
  c.requires.ready.held,
)
