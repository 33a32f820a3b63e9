use Rattle.std.proofs.Common.{refl, sym}
use Rattle.page_runs.proofs.ReadLemmas.{late_answers}
use Rattle.engine.proofs.group_reads.find_leaf.Goals as goal

pub returns-clause-answers : goal.returns-clause-answers
returns-clause-answers c =
    late_answers c.args.tree.now c.args.commands.now c.args.page_run.now _ c.in-Some.page.now _ c.in-Some-as_leaf.leaf.now c.whole.result.now _
    c.pid.ensures (sym c.in-Some.ensures.home) c.in-Some-as_leaf.ensures c.whole.ensures refl
