use Rattle.std.proofs.Common.{refl}
use Rattle.flush_log.proofs.SettingsLemmas.{settings-back, settings-stand}
use Rattle.flush_log.proofs.slot_laws.the_settings_block_is_read_back.Goals as goal

pub returns : goal.returns
returns c = record { length = λ s. refl; read = settings-back; stands = settings-stand }
