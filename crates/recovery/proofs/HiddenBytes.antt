-- Bytes that a reading doesn't examine don't matter.
use Rattle.std.specs.Prelude.{◌≡◌, ◌⊎◌, ℕ, suc, ◌+◌, ◌%◌, ◌<◌, ◌≤◌, false, List, Result, Ok}
use Rattle.std.proofs.Common.{sym, ap, ap₂, ◌∙◌, arith, subst, inl, inr}
use Rattle.std.proofs.lemmas.Bool.{cases_eq}
use Rattle.keys.specs.declared.fault.Fault.{Fault}
use Rattle.keys.specs.declared.settings.Settings.{Settings}
use Rattle.mapping.specs.Tree.{Store}
use Rattle.flush_log.specs.Overlay.{AgreeAt}
use Rattle.flush_log.specs.Segments.{IsInLog}
use Rattle.flush_log.specs.Slot.{slot_place, format_of, is_open, read_slot, newer, store_slot}
use Rattle.flush_log.specs.AfterFlush.{store_after}
use Rattle.flush_log.proofs.CommitLemmas.{slot_low}
use Rattle.flush_log.proofs.FitLemmas.{are_sized}
use Rattle.flush_log.proofs.HideLemmas.{hidden}
use Rattle.flush_log.proofs.OutcomeLemmas.{settings_same, slot_same}
use Rattle.flush_log.proofs.OverlayLemmas.{agree_less}
use Rattle.flush_log.proofs.SettingsLemmas.{store_settings-are}
use Rattle.flush_log.proofs.SlotLemmas.{said, closed, store_slot-read, store_slot-alone}
use Rattle.recovery.specs.LookedAt.{IsInSlot, IsLookedAt}
use Rattle.recovery.specs.StoreOfDisk.{frames_in, tree_by_log, store_of_disk}
use Rattle.recovery.proofs.NothingDue.{slot-read}
use Rattle.recovery.proofs.StoreLemmas.{StandsBy, store-stands, stands-for}

module _ (s : Settings) (file c : List ℕ) (on_disk : Store) (by : StandsBy s file on_disk) where
  abbrev read : Store
  read = store_after (tree_by_log by.slot (frames_in by.found)) by.slot

  -- the same is read, if the slot is
  stands-too : AgreeAt (IsLookedAt s read) file c → store_slot s c ≡ Ok by.slot → store_of_disk c ≡ Ok (s, read)
  stands-too agree slot =
      let (block, good, whole) = store_settings-are file s by.reads.settings in
      let sized = are_sized s good in
      let size = sized.least_size in
      let count = sized.least_count in
      let following = (slot-read s on_disk file by).following in
      let settings = settings_same (IsLookedAt s read) file c agree (omega (arith, whole)) (λ i low. inl low) in
      let same = hidden (format_of s by.slot) file c by.slot.head by.slot.tail (omega arith) (omega arith) whole (omega arith) (agree_less (IsLookedAt s read) (IsInLog s by.slot.head by.slot.tail) file c (λ i h. inr (inr h)) agree) in
      stands-for s c by.slot by.found (record { settings = settings ∙ by.reads.settings; slot = slot; log = same ∙ by.reads.log }) by.sound by.proper

  own_slot : AgreeAt (IsLookedAt s read) file c → read_slot s by.slot.sequence c ≡ said by.slot
  own_slot agree =
      let (block, good, whole) = store_settings-are file s by.reads.settings in
      let low = slot_low by.slot.sequence in
      slot_same (IsLookedAt s read) file c agree s by.slot.sequence (omega (arith, whole, low)) (λ i from to. inr (inl (from, to))) ∙ store_slot-read s file by.slot by.reads.slot

  closed_slot : AgreeAt (IsLookedAt s read) file c → is_open (suc by.slot.sequence) c ≡ false → store_of_disk c ≡ Ok (s, read)
  closed_slot agree shut = stands-too agree (store_slot-alone s c by.slot (own_slot agree) (closed s (suc by.slot.sequence) c shut))

  abbrev WithBoth : ℕ → Type 0
  WithBoth place = IsLookedAt s read place ⊎ IsInSlot (suc by.slot.sequence) place

  -- each of the two slots is that of the number or that of the next
  one_of_both : (m i : ℕ) → m < 2 → slot_place m ≤ i → i < slot_place m + 64 → WithBoth i
  one_of_both m i two from to =
      elim (cases_eq (by.slot.sequence % 2) m) [
        | inl same ↦ inl (inr (inl (omega (arith, same), omega (arith, same))))
        | inr other ↦ inr (omega (arith, other), omega (arith, other))
      ]

  both_slots : AgreeAt WithBoth file c → store_of_disk c ≡ Ok (s, read)
  both_slots agree =
      let (block, good, whole) = store_settings-are file s by.reads.settings in
      let slot : (m : ℕ) → m < 2 → read_slot s m c ≡ read_slot s m file = λ m two.
      (let low = slot_low m in slot_same WithBoth file c agree s m (omega (arith, whole, low)) (λ i from to. one_of_both m i two from to)) in
      stands-too (agree_less WithBoth (IsLookedAt s read) file c (λ i h. inl h) agree)
      (ap₂ newer (slot 0 (omega arith)) (slot 1 (omega arith)) ∙ by.reads.slot)

abbrev answer : Settings → Store → Result (Settings × Store) Fault
answer s st = Ok (s, st)

-- for a disk that encodes a store, whatever the bytes are that a reading doesn't examine, where the other slot is closed
pub hidden-closed : (s : Settings) (st : Store) (file c : List ℕ) → store_of_disk file ≡ Ok (s, st) → AgreeAt (IsLookedAt s st) file c → is_open (suc st.sequence) c ≡ false → store_of_disk c ≡ Ok (s, st)
hidden-closed s st file c is agree shut =
    let by : StandsBy s file st = store-stands s file st is in
    closed_slot s file c st by (subst (λ (x : Store). AgreeAt (IsLookedAt s x) file c) by.store agree) (subst (λ (x : Store). is_open (suc x.sequence) c ≡ false) by.store shut)
    ∙ ap (λ (x : Store). answer s x) (sym by.store)

-- or as it was
pub hidden-same : (s : Settings) (st : Store) (file c : List ℕ) → store_of_disk file ≡ Ok (s, st) → AgreeAt (λ place. IsLookedAt s st place ⊎ IsInSlot (suc st.sequence) place) file c → store_of_disk c ≡ Ok (s, st)
hidden-same s st file c is agree =
    let by : StandsBy s file st = store-stands s file st is in
    both_slots s file c st by (subst (λ (x : Store). AgreeAt (λ place. IsLookedAt s x place ⊎ IsInSlot (suc x.sequence) place) file c) by.store agree)
    ∙ ap (λ (x : Store). answer s x) (sym by.store)
