use Rattle.cleaner.proofs.CleanCrash.{clean-hidden, clean-crash}
use Rattle.cleaner.proofs.laws.a_crash_in_a_clean_leaves_the_store_before_or_after.Goals as goal

pub returns : goal.returns
returns c = record { hidden = clean-hidden; calls = clean-crash }
