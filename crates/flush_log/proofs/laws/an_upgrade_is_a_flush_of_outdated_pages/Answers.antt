use Rattle.std.proofs.Common.{refl}
use Rattle.flush_log.proofs.UpgradeLemmas.{upgrade-flush, upgrade-some}
use Rattle.flush_log.proofs.laws.an_upgrade_is_a_flush_of_outdated_pages.Goals as goal

pub returns : goal.returns
returns c = record { text = upgrade-flush; left = λ t. refl; some = upgrade-some }
