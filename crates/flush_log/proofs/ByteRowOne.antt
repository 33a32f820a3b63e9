-- Byte row 1: the settings block, and its reading.
use Rattle.std.specs.Prelude.{◌≡◌, ◌++◌, take, replicate, Some, None, Ok, Err}
use Rattle.std.proofs.Common.{refl}
use Rattle.keys.specs.declared.fault.Fault.TheVariants.{NotAStore}
use Rattle.keys.proofs.Literals.{S}
use Rattle.frame_codec.proofs.RowForms.{hex}
use Rattle.flush_log.specs.Overlay.{overlay}
use Rattle.flush_log.specs.SettingsBlock.{settings_block, read_settings, store_settings}

encoded : settings_block S ≡ hex "4257424154434831 0004 0002 0010 0010 00000100 00000004" ++ replicate 40 0
encoded = refl

read_back : read_settings (settings_block S) ≡ Some S
read_back = refl

-- another word, another byte than zero, a fan of 3, a byte less, a byte more
word : read_settings (overlay (settings_block S) 7 (hex "32")) ≡ None
word = refl

zeros : read_settings (overlay (settings_block S) 63 (hex "01")) ≡ None
zeros = refl

fan_of_3 : read_settings (overlay (settings_block S) 9 (hex "03")) ≡ None
fan_of_3 = refl

cut_off : read_settings (take 63 (settings_block S)) ≡ None
cut_off = refl

byte_more : read_settings (settings_block S ++ hex "00") ≡ None
byte_more = refl

-- row 20: the disk is a byte too short
long_enough : store_settings (settings_block S ++ replicate 1472 0) ≡ Ok S
long_enough = refl

too_short : store_settings (settings_block S ++ replicate 1471 0) ≡ Err NotAStore
too_short = refl
