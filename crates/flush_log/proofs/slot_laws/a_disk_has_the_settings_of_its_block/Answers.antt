use Rattle.flush_log.proofs.SettingsLemmas.{store_settings-are, store_settings-of}
use Rattle.flush_log.proofs.slot_laws.a_disk_has_the_settings_of_its_block.Goals as goal

pub returns : goal.returns
returns c disk s = (store_settings-are disk s, λ h. store_settings-of disk s h.0 h.1 h.2)
