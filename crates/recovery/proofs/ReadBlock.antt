-- Reading the settings block.
use Rattle.std.specs.Prelude.{◌≡◌, ℕ, ◌<◌, ◌≤◌, nat_le, if◌then◌else◌, Bool, List, length, take, Option, Some, None, Result, Ok, Err}
use Rattle.std.proofs.Common.{sym, ap, subst, ◌∙◌, arith, le-leb}
use Rattle.std.proofs.lemmas.Bool.{lt-leb}
use Rattle.std.proofs.lemmas.List.{length-take}
use Rattle.keys.specs.declared.settings.Settings.{Settings}
use Rattle.keys.specs.declared.fault.Fault.{Fault}
use Rattle.keys.specs.declared.fault.Fault.TheVariants.{NotAStore}
use Rattle.flush_log.specs.Overlay.{overlay}
use Rattle.flush_log.specs.Segments.{disk_size}
use Rattle.flush_log.specs.SettingsBlock.{read_settings, where_it_has_room, store_settings}
use Rattle.flush_log.proofs.BlockReading.{no_block}
use Rattle.flush_log.proofs.OverlayLemmas.{overlay-part}

abbrev ReadResult : Type 0
ReadResult = Result Settings Fault

abbrev none_there : ReadResult
none_there = Err NotAStore

abbrev pub these : Settings → ReadResult
these s = Ok s

-- of a disk that is long enough, by whether it has room for the segments
abbrev if_room : Settings → Bool → ReadResult
if_room s b = if b then these s else none_there

module _ (file block : List ℕ) (start : take 64 file ≡ block) where
  pub block-none : (o : Option Settings) → o ≡ None → o ≡ read_settings block → none_there ≡ store_settings file
  block-none o none state = ap (where_it_has_room file) (sym none ∙ state ∙ ap read_settings (sym start))

  state_by_room : (o : Option Settings) (s : Settings) → o ≡ Some s → o ≡ read_settings block → if_room s (nat_le (disk_size s) (length file)) ≡ store_settings file
  state_by_room o s some state = ap (where_it_has_room file) (sym some ∙ state ∙ ap read_settings (sym start))

  pub block-room : (o : Option Settings) (s : Settings) → o ≡ Some s → o ≡ read_settings block → disk_size s ≤ length file → these s ≡ store_settings file
  block-room o s some state room = sym (ap (if_room s) (le-leb (disk_size s) (length file) room)) ∙ state_by_room o s some state

  pub block-short : (o : Option Settings) (s : Settings) → o ≡ Some s → o ≡ read_settings block → length file < disk_size s → none_there ≡ store_settings file
  block-short o s some state short = sym (ap (if_room s) (lt-leb (disk_size s) (length file) short)) ∙ state_by_room o s some state

-- a disk that is shorter than the block
pub too_short : (file : List ℕ) → length file < 64 → store_settings file ≡ none_there
too_short file short = ap (where_it_has_room file) (sym (no_block (take 64 file) (λ e. let l = length-take 64 file in grind (arith, e, l, short))))

-- the block as it was read
pub block-start : (file block : List ℕ) → 64 ≤ length file → length block ≡ 64 → take 64 (overlay file 0 block) ≡ block
block-start file block room long =
    let part = overlay-part file 0 block (omega (arith, room, long)) in
    subst (λ (n : ℕ). take n (overlay file 0 block) ≡ block) long part
