use Rattle.recovery.proofs.KeptStore.{batch-kept, batch-in_step}
use Rattle.recovery.proofs.laws.a_tree_that_keeps_what_the_log_has_stays_in_step.Goals as goal

pub returns : goal.returns
returns c = record { step = batch-in_step; kept = batch-kept }
