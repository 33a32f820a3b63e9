use Rattle.std.proofs.Common.{ap, subst, sym, Err}
use Rattle.std.proofs.lemmas.Result.{err_from_is_err_and}
use Rattle.keys.specs.Bytes.{Bytes}
use Rattle.bwsh.specs.declared.order.Order.TheVariants.{Tidy}
use Rattle.bwsh.specs.declared.session.SessionError.TheVariants as errors
use Rattle.bwsh.specs.Session.{RunsOrder}
use Rattle.bwsh.proofs.MergedLemmas.{RunsOrder-merged, RunsOrder-unmerged}
use Rattle.bwsh.proofs.context.Session.run_tidy.Goals as goal

pub returns-in_err-pages-clause-runs : goal.returns-in_err-pages-clause-runs
returns-in_err-pages-clause-runs g c =
    let mode = c.args.self.now.calls.mode in
    let store = c.args.store.now in
    let disk = g.D.Disk.view store.disk in
    let after = c.tidy.new.self in
    let tidied = c.in_err-pages.ensures in
    let old = g.O.Write.contents c.args.out.now in
    let fault = c.in_err-pages.field-0.0 in
    let p = err_from_is_err_and c.from_residual.result c.from_residual.ensures.1 in
    rw (p.1, p.2)
    (subst (λ (bytes : Bytes). RunsOrder mode disk.is_honest store.settings store.store disk.seen (Tidy c.args.most) old old (Err (errors.Fault fault)) after.store bytes)
    (ap (λ d. (g.D.Disk.view d).seen) (sym tidied.rest.1))
    (RunsOrder-unmerged mode disk.is_honest store.settings store.store after.store disk.seen c.args.most tidied.tidied old fault (tidied.refused c.requires.fine c.args.self.now.calls.crew_in_range)))

pub returns-clause-runs : goal.returns-clause-runs
returns-clause-runs g c =
    let mode = c.args.self.now.calls.mode in
    let store = c.args.store.now in
    let disk = g.D.Disk.view store.disk in
    let after = c.tidy.new.self in
    let tidied = c.in_ok-pages.ensures in
    let old = g.O.Write.contents c.args.out.now in
    let new = g.O.Write.contents c.print_numbers.new.out in
    let end = c.print_numbers.result in
    subst (λ (bytes : Bytes). RunsOrder mode disk.is_honest store.settings store.store disk.seen (Tidy c.args.most) old new end after.store bytes)
    (ap (λ d. (g.D.Disk.view d).seen) (sym tidied.rest.1))
    (RunsOrder-merged mode disk.is_honest store.settings store.store after.store disk.seen c.args.most tidied.tidied old new end c.in_ok-pages.pages tidied.pages c.print_numbers.ensures)
