use Rattle.std.proofs.Common.{◌∷◌, [], ap}
use Rattle.bwsh.proofs.AskLemmas.{RunsAsk-ended}
use Rattle.bwsh.proofs.context.Session.answer.Goals as goal

pub returns-clause-runs : goal.returns-clause-runs
returns-clause-runs g c =
    let store = c.args.store.now in
    let disk = g.D.Disk.view store.disk in
    let after = c.run_order-done.new.store in
    let contents = g.O.Write.contents in
    let ended = c.end_answer-done.ensures in
    RunsAsk-ended c.args.self.now.calls.mode disk.is_honest store.settings store.store disk.seen (c.args.order.now ∷ []) (contents c.args.out.now) after.store (g.D.Disk.view after.disk).seen c.if-not-self.false
    (contents c.run_order-done.new.out) (contents c.end_answer-done.new.out) (contents c.flush.new.out) c.end_answer-done.result c.flush.result (c.flush.ensures.bytes, c.flush.ensures.end)
    c.run_order-done.result c.run_order-done.ensures.runs (record {
      done = λ is. (let (end, same) = ended.done is in (end, ap contents same));
      fault = ended.fault;
      device = ended.device;
    })
