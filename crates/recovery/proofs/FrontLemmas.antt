-- Files that agree before the segments.
use Rattle.std.specs.Prelude.{◌≡◌, ℕ, ◌<◌, ◌≤◌, List, get_or, length, take}
use Rattle.std.proofs.Common.{sym, ap, ap₂, ◌∙◌, arith}
use Rattle.std.proofs.lemmas.List.{get_or-take}
use Rattle.keys.specs.declared.settings.Settings.{Settings}
use Rattle.flush_log.specs.Overlay.{AgreeAt}
use Rattle.flush_log.specs.Segments.{segments_begin}
use Rattle.flush_log.specs.SettingsBlock.{store_settings}
use Rattle.flush_log.specs.Slot.{newer, read_slot, store_slot}
use Rattle.flush_log.proofs.CommitLemmas.{slot_low}
use Rattle.flush_log.proofs.OutcomeLemmas.{settings_same, slot_same}

module _ (file now : List ℕ) (long : length now ≡ length file) (front : take segments_begin now ≡ take segments_begin file) where
  pub front-agree : AgreeAt (λ i. i < 512) file now
  front-agree = record {
    long = long;
    same = λ i low. sym (get_or-take 512 now i 0 low) ∙ ap (λ (bs : List ℕ). get_or bs i 0) front ∙ get_or-take 512 file i 0 low;
  }

  -- they have the same settings
  pub front-settings : 512 ≤ length file → store_settings now ≡ store_settings file
  front-settings room = settings_same (λ i. i < 512) file now front-agree (omega (arith, room)) (λ i less. omega (arith, less))

  one_slot : (s : Settings) (m : ℕ) → 512 ≤ length file → read_slot s m now ≡ read_slot s m file
  one_slot s m room =
      let few = slot_low m in
      slot_same (λ i. i < 512) file now front-agree s m (omega (arith, few, room)) (λ i from to. omega (arith, few, to))

  -- and the same slot
  pub front-slot : (s : Settings) → 512 ≤ length file → store_slot s now ≡ store_slot s file
  front-slot s room = ap₂ newer (one_slot s 0 room) (one_slot s 1 room)
