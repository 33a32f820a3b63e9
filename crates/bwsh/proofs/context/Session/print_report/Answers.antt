use Rattle.std.proofs.Common.{◌∷◌, [], subst}
use Rattle.std.proofs.lemmas.Result.{err_from_is_err_and}
use Rattle.verify.specs.declared.report.Report.{Report}
use Rattle.bwsh.specs.declared.order.Order.TheVariants.{Verify}
use Rattle.bwsh.specs.Output.{Writes}
use Rattle.bwsh.specs.Shown.{shown_report}
use Rattle.bwsh.proofs.AloneLemmas.{RunsOrder-still, RunsOrder-unstill}
use Rattle.bwsh.proofs.context.Session.print_report.Goals as goal

pub returns-in_err-report : goal.returns-in_err-report
returns-in_err-report g c =
    let store = c.args.store.now in
    let disk = g.D.Disk.view store.disk in
    let p = err_from_is_err_and c.from_residual.result c.from_residual.ensures.1 in
    rw (p.1, p.2) (RunsOrder-unstill c.args.self.now.calls.mode disk.is_honest store.settings store.store disk.seen Verify tt _ _ c.in_err-report.ensures.err)

pub returns : goal.returns
returns g c =
    let store = c.args.store.now in
    let disk = g.D.Disk.view store.disk in
    let old = g.O.Write.contents c.args.out.now in
    let new = g.O.Write.contents c.print_numbers.new.out in
    RunsOrder-still c.args.self.now.calls.mode disk.is_honest store.settings store.store disk.seen Verify tt tt old new c.print_numbers.result
    (subst (λ (r : Report). Writes old new (shown_report r ∷ []) c.print_numbers.result) c.in_ok-report.ensures.ok c.print_numbers.ensures)
