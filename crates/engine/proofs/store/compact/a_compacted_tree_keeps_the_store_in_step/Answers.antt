use Rattle.engine.proofs.CompactedStores.{compacted_holds, compacted_in_step, compacted_kept}
use Rattle.engine.proofs.Routed.{as_store}
use Rattle.engine.proofs.store.compact.a_compacted_tree_keeps_the_store_in_step.Goals as goal

pub returns-clause-holds : goal.returns-clause-holds
returns-clause-holds c s st is =
    compacted_holds s (λ t b p. c.the_plan_holds_the_map_after_the_commands.ensures s (as_store t) b is.good p)
    (λ t b p short. c.the_plan_of_a_proper_store_is_proper.ensures s (as_store t) b is.good p short)
    (λ t b p l. c.the_log_states_stay_true.ensures s (as_store t) b is.good p l)
    (λ t b pid. c.what_the_log_has_of_a_page_stays_true.ensures.none s (as_store t) b pid)
    (λ t b pid k e. c.what_the_log_has_of_a_page_stays_true.ensures.upto s (as_store t) b pid k e)
    (λ t b p pid k page e f. c.what_the_log_has_of_a_page_stays_true.ensures.stands s (as_store t) b pid k page is.good p e f)
    (c.the_first_tree_is_proper_and_empty.ensures.proper s) c.the_first_tree_is_proper_and_empty.ensures.empty
    (λ t p. c.the_contents_of_a_proper_tree_rise.ensures s t p) st.tree is.proper

pub returns-clause-kept : goal.returns-clause-kept
returns-clause-kept c s st is low words =
    compacted_kept s (λ t b p. c.the_plan_holds_the_map_after_the_commands.ensures s (as_store t) b is.good p)
    (λ t b p short. c.the_plan_of_a_proper_store_is_proper.ensures s (as_store t) b is.good p short)
    (λ t b p l. c.the_log_states_stay_true.ensures s (as_store t) b is.good p l)
    (λ t b pid. c.what_the_log_has_of_a_page_stays_true.ensures.none s (as_store t) b pid)
    (λ t b pid k e. c.what_the_log_has_of_a_page_stays_true.ensures.upto s (as_store t) b pid k e)
    (λ t b p pid k page e f. c.what_the_log_has_of_a_page_stays_true.ensures.stands s (as_store t) b pid k page is.good p e f)
    (c.the_first_tree_is_proper_and_empty.ensures.proper s) c.the_first_tree_is_proper_and_empty.ensures.empty
    (λ t p. c.the_contents_of_a_proper_tree_rise.ensures s t p) st is low words

pub returns-clause-step : goal.returns-clause-step
returns-clause-step c s st file h low words =
    compacted_in_step s (λ t b p. c.the_plan_holds_the_map_after_the_commands.ensures s (as_store t) b h.is.good p)
    (λ t b p short. c.the_plan_of_a_proper_store_is_proper.ensures s (as_store t) b h.is.good p short)
    (λ t b p l. c.the_log_states_stay_true.ensures s (as_store t) b h.is.good p l)
    (λ t b pid. c.what_the_log_has_of_a_page_stays_true.ensures.none s (as_store t) b pid)
    (λ t b pid k e. c.what_the_log_has_of_a_page_stays_true.ensures.upto s (as_store t) b pid k e)
    (λ t b p pid k page e f. c.what_the_log_has_of_a_page_stays_true.ensures.stands s (as_store t) b pid k page h.is.good p e f)
    (c.the_first_tree_is_proper_and_empty.ensures.proper s) c.the_first_tree_is_proper_and_empty.ensures.empty
    (λ t p. c.the_contents_of_a_proper_tree_rise.ensures s t p) st file h low words
