use Rattle.recovery.proofs.CrashLemmas.{upgrade-hidden, upgrade-crash}
use Rattle.recovery.proofs.laws.a_crash_in_an_upgrade_leaves_the_store_before_or_after.Goals as goal

pub returns : goal.returns
returns c = record { hidden = upgrade-hidden; calls = upgrade-crash }
