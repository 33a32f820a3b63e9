use Rattle.std.proofs.Common.{◌∷◌, [], subst, Ok, Err}
use Rattle.std.proofs.lemmas.Result.{err_from_is_err_and}
use Rattle.bwsh.specs.declared.order.Order.TheVariants.{Stat}
use Rattle.bwsh.specs.declared.show.StoreNumbers.{StoreNumbers}
use Rattle.keys.specs.declared.settings.Settings.{Settings}
use Rattle.bwsh.specs.Output.{Writes}
use Rattle.bwsh.specs.Session.{numbers_of}
use Rattle.bwsh.specs.Shown.{shown_numbers, shown_settings}
use Rattle.bwsh.proofs.AloneLemmas.{RunsOrder-still, Writes-both, Writes-early}
use Rattle.bwsh.proofs.context.Session.print_stat.Goals as goal

pub returns-in_err-print_numbers : goal.returns-in_err-print_numbers
returns-in_err-print_numbers g c =
    let store = c.args.store.now in
    let disk = g.D.Disk.view store.disk in
    let old = g.O.Write.contents c.args.out.now in
    let new = g.O.Write.contents c.print_numbers.new.out in
    let p = err_from_is_err_and c.from_residual.result c.from_residual.ensures.1 in
    let early = c.in_err-print_numbers.field-0.0 in
    rw (p.1, p.2) (RunsOrder-still c.args.self.now.calls.mode disk.is_honest store.settings store.store disk.seen Stat tt tt old new (Err early)
    (Writes-early old new (shown_numbers (numbers_of store.settings store.store) ∷ []) (shown_settings store.settings ∷ []) early
    (subst (λ (n : StoreNumbers). Writes old new (shown_numbers n ∷ []) (Err early)) c.numbers_of.ensures c.in_err-print_numbers.ensures)))

pub returns : goal.returns
returns g c =
    let store = c.args.store.now in
    let disk = g.D.Disk.view store.disk in
    let old = g.O.Write.contents c.args.out.now in
    let mid = g.O.Write.contents c.print_numbers.new.out in
    let new = g.O.Write.contents c.print_numbers-2.new.out in
    let end = c.print_numbers-2.result in
    RunsOrder-still c.args.self.now.calls.mode disk.is_honest store.settings store.store disk.seen Stat tt tt old new end
    (Writes-both old mid new (shown_numbers (numbers_of store.settings store.store) ∷ []) (shown_settings store.settings ∷ []) tt end
    (subst (λ (n : StoreNumbers). Writes old mid (shown_numbers n ∷ []) (Ok tt)) c.numbers_of.ensures c.in_ok-print_numbers.ensures)
    (subst (λ (s : Settings). Writes mid new (shown_settings s ∷ []) end) c.settings.ensures c.print_numbers-2.ensures))
