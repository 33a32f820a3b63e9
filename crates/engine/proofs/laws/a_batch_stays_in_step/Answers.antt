use Rattle.engine.proofs.BatchInStep.{keeps_store, keeps_stores}
use Rattle.engine.proofs.Routed.{as_store}
use Rattle.engine.proofs.laws.a_batch_stays_in_step.Goals as goal

pub returns-clause-batches : goal.returns-clause-batches
returns-clause-batches g c s st file cs h allowed root =
    keeps_stores s (λ t b p. c.the_plan_holds_the_map_after_the_commands.ensures s (as_store t) b h.is.good p)
    (λ t b p short. c.the_plan_of_a_proper_store_is_proper.ensures s (as_store t) b h.is.good p short)
    (λ t b p l. c.the_log_states_stay_true.ensures s (as_store t) b h.is.good p l)
    (λ t b pid. c.what_the_log_has_of_a_page_stays_true.ensures.none s (as_store t) b pid)
    (λ t b pid k e. c.what_the_log_has_of_a_page_stays_true.ensures.upto s (as_store t) b pid k e)
    (λ t b p pid k page e f. c.what_the_log_has_of_a_page_stays_true.ensures.stands s (as_store t) b pid k page h.is.good p e f) st file cs h allowed root

pub returns-clause-step : goal.returns-clause-step
returns-clause-step g c s st file cs h allowed root = (returns-clause-batches g c s st file cs h allowed root).1

pub returns-clause-kept : goal.returns-clause-kept
returns-clause-kept g c s st cs h allowed root =
    keeps_store s (λ t b p. c.the_plan_holds_the_map_after_the_commands.ensures s (as_store t) b h.good p)
    (λ t b p short. c.the_plan_of_a_proper_store_is_proper.ensures s (as_store t) b h.good p short)
    (λ t b p l. c.the_log_states_stay_true.ensures s (as_store t) b h.good p l)
    (λ t b pid. c.what_the_log_has_of_a_page_stays_true.ensures.none s (as_store t) b pid)
    (λ t b pid k e. c.what_the_log_has_of_a_page_stays_true.ensures.upto s (as_store t) b pid k e)
    (λ t b p pid k page e f. c.what_the_log_has_of_a_page_stays_true.ensures.stands s (as_store t) b pid k page h.good p e f) st cs h allowed root
