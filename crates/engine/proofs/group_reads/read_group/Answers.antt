use Rattle.std.proofs.Common.{◌∙◌, ap, map}
use Rattle.std.proofs.lemmas.Result.{IfOk-weaker}
use Rattle.engine.specs.GroupReads.{group_leaf_answers}
use Rattle.engine.proofs.GroupLemmas.{group_read}
use Rattle.engine.proofs.group_reads.read_group.Goals as goal

pub returns : goal.returns
returns c =
    let cs = c.args.commands.now in
    IfOk-weaker c.pieces_of.result _ _ (λ pieces e. group_read c.args.tree.now cs c.args.page_runs.now c.deref-3.result.now c.in_ok-found.found.items c.deref-5.result.now pieces
    (ap (map (group_leaf_answers cs)) c.deref-3.ensures.value ∙ c.in_ok-leaves.ensures.answers) c.in_ok-found.ensures (c.deref-5.ensures.value ∙ c.in_ok-use_sum.ensures) e) c.pieces_of.ensures
