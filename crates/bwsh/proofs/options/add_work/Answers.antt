use Rattle.std.proofs.lemmas.Result.{IfOk-weaker}
use Rattle.bwsh.proofs.ClapLemmas.{rule_added}
use Rattle.bwsh.proofs.options.add_work.Goals as goal

pub returns : goal.returns
returns c =
    let first = rule_added _ _ _ _ _ c.in_ok-arg.ensures c.path.ensures.local c.in_ok-add_numbers.ensures c.path.ensures.rule in
    IfOk-weaker c.arg-2.result _ _ (λ _ added. rule_added _ _ _ _ _ added c.path-2.ensures.local first c.path-2.ensures.rule) c.arg-2.ensures
