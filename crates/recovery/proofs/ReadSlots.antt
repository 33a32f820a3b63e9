-- Reading the two slots.
use Rattle.std.specs.Prelude.{◌≡◌, ℕ, ◌≤◌, true, List, ◌++◌, length, take, drop, replicate, Result, Ok, Err, IfOk}
use Rattle.std.proofs.Common.{sym, ap, subst, ◌∙◌, inl, arith}
use Rattle.std.proofs.lemmas.List.{take-take, take_all, drop_at, drop-drop, drop-take, length-replicate}
use Rattle.keys.specs.declared.settings.Settings.{Settings}
use Rattle.keys.specs.declared.fault.Fault.{Fault}
use Rattle.flush_log.specs.Overlay.{overlay, IsBeside}
use Rattle.flush_log.specs.SettingsBlock.{store_settings}
use Rattle.flush_log.specs.Slot.{Slot, is_slot, store_slot}
use Rattle.flush_log.proofs.OutcomeLemmas.{settings_same}
use Rattle.flush_log.proofs.OverlayLemmas.{overlay-beside, overlay-part}
use Rattle.flush_log.proofs.SlotLemmas.{slot-stands, store_slot-read}

-- each of the two in the bytes of both
pub first-of : (disk slots : List ℕ) → take 128 (drop 128 disk) ≡ slots → take 64 (drop 128 disk) ≡ take 64 slots
first-of disk slots are = sym (take-take 64 128 (drop 128 disk) (omega arith)) ∙ ap (λ (bs : List ℕ). take 64 bs) are

pub second-of : (disk slots : List ℕ) → take 128 (drop 128 disk) ≡ slots → take 64 (drop 192 disk) ≡ drop 64 slots
second-of disk slots are = ap (λ (bs : List ℕ). take 64 bs) (sym (drop-drop 64 128 disk)) ∙ sym (drop-take 64 64 (drop 128 disk)) ∙ ap (λ (bs : List ℕ). drop 64 bs) are

-- a disk that has these slots
pub disk-of : (slots : List ℕ) → length slots ≡ 128 → take 128 (drop 128 (replicate 128 0 ++ slots)) ≡ slots
disk-of slots long = ap (λ (bs : List ℕ). take 128 bs) (drop_at (replicate 128 0) slots 128 (length-replicate {A = ℕ} 128 0)) ∙ take_all 128 slots (omega (arith, long))

-- the store's slot is well formed
pub slot-good : (s : Settings) (disk : List ℕ) (r : Result Slot Fault) → r ≡ store_slot s disk → IfOk r (λ t. is_slot s t.sequence t ≡ true)
slot-good s disk (Ok t) e = (slot-stands s t.sequence t disk (store_slot-read s disk t (sym e))).good
slot-good s disk (Err fault) e = tt

-- after they are read, the settings are unchanged, and the slots are these
module _ (file slots : List ℕ) (room : 256 ≤ length file) (long : length slots ≡ 128) where
  pub slots-settings : store_settings (overlay file 128 slots) ≡ store_settings file
  slots-settings =
      settings_same (IsBeside 128 (length slots)) file (overlay file 128 slots) (overlay-beside file 128 slots (omega (arith, room, long))) (omega (arith, room)) (λ i low. inl (omega (arith, low)))

  pub slots-read : take 128 (drop 128 (overlay file 128 slots)) ≡ slots
  slots-read = subst (λ (n : ℕ). take n (drop 128 (overlay file 128 slots)) ≡ slots) long (overlay-part file 128 slots (omega (arith, room, long)))
