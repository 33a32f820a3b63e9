use Rattle.std.proofs.Common.{sym}
use Rattle.page_runs.proofs.ReadLemmas.{late_answers}
use Rattle.page_runs.proofs.read_work.ReadWorkWork.work.Goals as goal

-- src/read_work.rt:77:5
pub returns-in-Ok-clause-made : goal.returns-in-Ok-clause-made
returns-in-Ok-clause-made c =
    late_answers c.args.self.now.tree.now c.args.self.now.commands.now c.args.page_run _ c.in-Some.page.now _ c.in-Some-as_leaf.leaf.now c.whole.result.now c.in-Ok.pieces
    c.pid.ensures (sym c.in-Some.ensures.home) c.in-Some-as_leaf.ensures c.whole.ensures c.in-Ok.ensures.pieces
