use Rattle.std.proofs.Common.{◌∙◌, ◌++◌, List, [], ap, subst}
use Rattle.std.specs.Prelude.{option_to_list}
use Rattle.mapping.specs.Levels.{contents}
use Rattle.bwsh.specs.declared.line.Line.{Line}
use Rattle.bwsh.specs.declared.order.Bounds.{Bounds}
use Rattle.bwsh.specs.declared.order.Order.{Order}
use Rattle.bwsh.specs.BatchFile.{asked}
use Rattle.bwsh.specs.BatchFile.Pending.{begun}
use Rattle.bwsh.specs.Session.{RunsOn}
use Rattle.bwsh.proofs.EndLemmas.{RunsOn-flushed}
use Rattle.bwsh.proofs.LoopLemmas.{come_new}
use Rattle.bwsh.proofs.context.Session.run_opened.Goals as goal

pub returns : goal.returns
returns g c =
    let store = c.args.store.now in
    let disk = g.D.Disk.view store.disk in
    let mode = c.args.self.now.calls.mode in
    let old = g.O.Write.contents c.args.out.now in
    let run = c.run_orders-done in
    let printed = g.O.Write.contents run.new.out in
    let held = contents run.new.store.store.tree in
    let (orders, come, runs) = run.ensures in
    let made = c.new-source.ensures in
    let bounds = made.bounds ∙ c.bounds.ensures in
    let comes = λ (parsed : List Line). made.come parsed ∙ ap (λ (b : Bounds). asked b 1 (begun []) parsed ++ option_to_list c.then_some-last.result) c.bounds.ensures in
    let (parsed, read, orders_are) = come_new g.I.Read.remaining c.new-source.result c.args.input mode _ made.input bounds c.then_some-last.ensures comes orders come in (
      parsed,
      read,
      RunsOn-flushed mode disk.is_honest store.settings store.store disk.seen _ old printed (g.O.Write.contents c.flush.new.out) run.result c.flush.result held
          (subst (λ (os : List Order). RunsOn mode disk.is_honest store.settings store.store disk.seen os old printed run.result held) orders_are runs) c.flush.ensures.bytes c.flush.ensures.end,
    )
