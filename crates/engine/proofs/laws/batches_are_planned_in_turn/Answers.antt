use Rattle.engine.proofs.InTurn.{contents_in_turn, proper_in_turn, logs_in_turn}
use Rattle.engine.proofs.Routed.{as_store}
use Rattle.engine.proofs.laws.batches_are_planned_in_turn.Goals as goal

pub returns-clause-contents : goal.returns-clause-contents
returns-clause-contents g c s t bs good proper short =
    contents_in_turn s (λ u b p. c.the_plan_holds_the_map_after_the_commands.ensures s (as_store u) b good p)
    (λ u b p h. c.the_plan_of_a_proper_store_is_proper.ensures s (as_store u) b good p h) t bs proper short

pub returns-clause-proper : goal.returns-clause-proper
returns-clause-proper g c s t bs good proper short =
    proper_in_turn s (λ u b p. c.the_plan_holds_the_map_after_the_commands.ensures s (as_store u) b good p)
    (λ u b p h. c.the_plan_of_a_proper_store_is_proper.ensures s (as_store u) b good p h) t bs proper short

pub returns-clause-logs : goal.returns-clause-logs
returns-clause-logs g c s t bs good proper short logs =
    logs_in_turn s (λ u b p. c.the_plan_holds_the_map_after_the_commands.ensures s (as_store u) b good p)
    (λ u b p h. c.the_plan_of_a_proper_store_is_proper.ensures s (as_store u) b good p h)
    (λ u b p l. c.the_log_states_stay_true.ensures s (as_store u) b good p l) t bs proper short logs
