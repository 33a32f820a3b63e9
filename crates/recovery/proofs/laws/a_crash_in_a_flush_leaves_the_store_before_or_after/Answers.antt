use Rattle.recovery.proofs.CrashLemmas.{flush-hidden, flush-crash}
use Rattle.recovery.proofs.laws.a_crash_in_a_flush_leaves_the_store_before_or_after.Goals as goal

pub returns : goal.returns
returns c = record { hidden = flush-hidden; calls = flush-crash }
