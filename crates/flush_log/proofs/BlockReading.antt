-- The contents of the settings block, as a reading finds them step by step.
use Rattle.std.proofs.Common.{◌≡◌, ◌≢◌, Bool, true, false, ◌&&◌, if◌then◌else◌, is_none, is_ok, length, Option, Some, None, Result, Ok, Err, MatchOption, bytes_eq, refl, sym, ap, ap₂, ◌∙◌}
use Rattle.std.proofs.lemmas.Slice.Eq.{bytes_eq-Decides}
use Rattle.keys.specs.Bytes.{Bytes}
use Rattle.keys.specs.Limits.{first_bad_field}
use Rattle.keys.specs.declared.settings.Settings.{Settings}
use Rattle.keys.specs.declared.settings.Field.{Field}
use Rattle.keys.specs.declared.fault.Fault.{Fault}
use Rattle.keys.specs.declared.fault.Fault.TheVariants.{BadSettings}
use Rattle.flush_log.specs.SettingsBlock.{settings_block, settings_in, read_settings}

abbrev pub chosen : Settings → Bool → Option Settings
chosen s b = if b then Some s else None

-- whether the settings pass their check
pub passes : (o : Option Field) (r : Result (Unit {0}) Fault) → MatchOption o (r ≡ Ok tt) (λ field. r ≡ Err (BadSettings field)) → is_ok r ≡ is_none o
passes None r h = ap is_ok h
passes (Some field) r h = ap is_ok h

-- bytes of another length are no block
pub no_block : (bytes : Bytes) → length bytes ≢ 64 → None ≡ read_settings bytes
no_block bytes other = of (bytes_eq (settings_block (settings_in bytes)) bytes) refl
  where
    of : (b : Bool) → bytes_eq (settings_block (settings_in bytes)) bytes ≡ b → None ≡ chosen (settings_in bytes) (b && is_none (first_bad_field (settings_in bytes)))
    of true same = absurd (other (sym (ap length ((bytes_eq-Decides (settings_block (settings_in bytes)) bytes).0 same))))
    of false same = refl

-- whether the bytes encode the settings that are decoded from them, and whether these settings pass the check
pub block_read : (bytes : Bytes) (s : Settings) (same good : Bool) → s ≡ settings_in bytes → same ≡ bytes_eq (settings_block s) bytes → good ≡ is_none (first_bad_field s)
    → chosen s (same && good) ≡ read_settings bytes
block_read bytes s same good is e g =
    let tests : same && good ≡ bytes_eq (settings_block s) bytes && is_none (first_bad_field s) = ap₂ (λ (a b : Bool). a && b) e g in
    ap (chosen s) tests ∙ ap (λ (t : Settings). chosen t (bytes_eq (settings_block t) bytes && is_none (first_bad_field t))) is

-- where they don't pass
pub refused : (bytes : Bytes) (s : Settings) → s ≡ settings_in bytes → false ≡ is_none (first_bad_field s) → None ≡ read_settings bytes
refused bytes s is g = none (bytes_eq (settings_block s) bytes) ∙ block_read bytes s (bytes_eq (settings_block s) bytes) false is refl g
  where
    none : (b : Bool) → None ≡ chosen s (b && false)
    none true = refl
    none false = refl
