use Rattle.verify.proofs.look.broken_rule_of_leaf.Goals as goal

pub broken_rule-requires-2 : goal.broken_rule-requires-2
broken_rule-requires-2 c = rw (c.unmerged_runs-runs.ensures, c.in_ok-base.ensures.entries) c.depth-depth.ensures.rising
