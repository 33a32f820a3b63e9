use Rattle.std.proofs.Common.{refl}
use Rattle.bwsh.specs.declared.order.Order.TheVariants.{Flush}
use Rattle.bwsh.proofs.TidiedLemmas.{RunsOrder-tidied, TidiesTo-batches, untidy}
use Rattle.bwsh.proofs.context.Context.flush_tidied.Goals as goal

-- flushes clean when the log is full
pub returns-then-self-clause-runs : goal.returns-then-self-clause-runs
returns-then-self-clause-runs g c first by = c.flush_and_print.ensures.runs c.args.self.now.mode c.if-self.true first by

pub returns-then-self-clause-rest : goal.returns-then-self-clause-rest
returns-then-self-clause-rest g c = c.flush_and_print.ensures.rest

-- they don't
pub returns-clause-runs : goal.returns-clause-runs
returns-clause-runs g c first by =
    let mode = c.args.self.now.mode in
    let store = c.args.store.now in
    let disk = g.D.Disk.view store.disk in
    let after = c.run_step.new.store in
    let tidied = TidiesTo-batches mode store.settings first store.store by in
    RunsOrder-tidied mode c.if-self.false disk.is_honest store.settings tidied.tidying tidied.asked first store.store tidied.leaves disk.seen (g.O.Write.contents c.args.out.now) (g.O.Write.contents c.run_step.new.out)
    c.run_step.result after.store (g.D.Disk.view after.disk).seen (c.run_step.ensures.runs (untidy mode) Flush refl (λ _. refl))

pub returns-clause-rest : goal.returns-clause-rest
returns-clause-rest g c = (c.run_step.ensures.rest, c.run_step.ensures.holds Flush refl refl)
