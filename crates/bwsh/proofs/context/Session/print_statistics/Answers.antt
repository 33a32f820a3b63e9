use Rattle.std.proofs.Common.{◌∷◌, [], subst}
use Rattle.bwsh.specs.declared.order.Order.TheVariants.{Numbers}
use Rattle.bwsh.specs.declared.show.StoreNumbers.{StoreNumbers}
use Rattle.bwsh.specs.Output.{Writes}
use Rattle.bwsh.specs.Shown.{shown_numbers}
use Rattle.bwsh.proofs.AloneLemmas.{RunsOrder-still}
use Rattle.bwsh.proofs.context.Session.print_statistics.Goals as goal

pub returns : goal.returns
returns g c =
    let store = c.args.store.now in
    let disk = g.D.Disk.view store.disk in
    let old = g.O.Write.contents c.args.out.now in
    let new = g.O.Write.contents c.print_numbers.new.out in
    RunsOrder-still c.args.self.now.calls.mode disk.is_honest store.settings store.store disk.seen Numbers tt tt old new c.print_numbers.result
    (subst (λ (n : StoreNumbers). Writes old new (shown_numbers n ∷ []) c.print_numbers.result) c.numbers_of.ensures c.print_numbers.ensures)
