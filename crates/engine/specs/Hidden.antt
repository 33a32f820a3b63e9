-- A disk on which a store is created so that no reader finds it before it is complete: only at the end its first byte becomes that of a store.
use Rattle.std.specs.Prelude.{◌≡◌, ◌⊎◌, ℕ, Bool, IsTrue, not, nat_eq, nat_le, nat_lt, ◌==◌, ◌&&◌, ◌||◌, ◌+◌, ◌*◌, if◌then◌else◌, [], ◌∷◌, length, take, drop, slice_index, is_some, Result, Err, IfOk, IfErr, MatchResult}
use Rattle.std.specs.List.{list_all}
use Rattle.keys.specs.Bytes.{Bytes}
use Rattle.keys.specs.declared.fault.Fault.{Fault}
use Rattle.keys.specs.declared.fault.Fault.TheVariants.{Device, NotAStore}
use Rattle.flush_log.specs.Disk.{View, IsSynced, Kept, LeavesOnly}
use Rattle.flush_log.specs.Overlay.{overlay, IsBeside, AgreeAt}
use Rattle.flush_log.specs.Slot.{slot_in, slot_place, slot_size, slots_begin}
use Rattle.flush_log.specs.SettingsBlock.{read_settings, settings_block_size, store_settings}
use Rattle.recovery.specs.Recovered.{IsLate}
use Rattle.engine.specs.State.{State, IsSound}

-- the first byte of a settings block, B
abbrev pub store_byte : ℕ
store_byte = 66

-- the byte after 0 and the first byte of a settings block were exchanged
abbrev pub exchanged_byte : ℕ → ℕ
exchanged_byte b = if nat_eq b 0 then store_byte else if nat_eq b store_byte then 0 else b

-- bytes whose first byte is exchanged in this way
abbrev pub exchanged : Bytes → Bytes
exchanged [] = []
exchanged (b ∷ bytes) = exchanged_byte b ∷ bytes

-- the view of a disk whose first byte is exchanged in each read and each write
abbrev pub exchanged_view : View → View
exchanged_view v = record {
  is_honest = v.is_honest;
  size = v.size;
  seen = exchanged v.seen;
  may_leave = λ c. (below : Bytes) × v.may_leave below × (c ≡ exchanged below);
  moment = v.moment;
  left_since = λ t c. (below : Bytes) × v.left_since t below × (c ≡ exchanged below);
}

-- a disk with these bytes holds no store
abbrev pub HoldsNoStore : Bytes → Type 0
HoldsNoStore c = store_settings c ≡ Err NotAStore

-- bytes whose first byte is 0, and which agree with a file except for the first two bytes
pub record IsCleared (file c : Bytes) : Type 0 where
  pub first : slice_index c 0 ≡ 0
  pub same : AgreeAt (IsBeside 0 2) file c

-- what a crash may leave while the store on a disk with these bytes is made unreadable: those bytes, or no store
abbrev pub IsLeftHiding : Bytes → Bytes → Type 0
IsLeftHiding file c = (c ≡ file) ⊎ HoldsNoStore c

-- the bytes of a disk after its first byte was set to that of a store
abbrev pub revealed : Bytes → Bytes
revealed file = overlay file 0 (store_byte ∷ [])

-- what a crash may leave during that write: no store, or those bytes
abbrev pub IsLeftRevealing : Bytes → Bytes → Type 0
IsLeftRevealing file c = HoldsNoStore c ⊎ (c ≡ revealed file)

-- A store whose disk hides the disk beneath it was revealed, or was not.
pub record IsRevealed {D E : Type 0} (view : D → View) (failures : D → ℕ) (hidden : State E) (beneath : D) (result : Result (State D) (Fault × D)) : Type 0 where
  -- it is the same store, on the disk beneath
  pub same : IfOk result (λ shown. (shown.settings ≡ hidden.settings) × (shown.store ≡ hidden.store) × (shown.has_failed ≡ hidden.has_failed))
  pub kept : IfOk result (λ shown. Kept (view beneath) (view shown.disk) × (failures shown.disk ≡ failures beneath))
  pub sound : IfOk result (λ shown. IsSound view shown)
  -- only a call of the disk can fail
  pub refused : IfErr result (λ e. (e.0 ≡ Device) × IsLate (failures beneath) (failures e.1) e.0 × Kept (view beneath) (view e.1))
  -- on an honest disk: the bytes, synced; on a synced disk: what a crash at any moment leaves
  pub bytes : IsTrue (view beneath).is_honest → IfOk result (λ shown. ((view shown.disk).seen ≡ revealed (view beneath).seen) × IsSynced (view shown.disk))
  pub crash : IsSynced (view beneath) → MatchResult result
      (λ shown. LeavesOnly (view beneath) (view shown.disk) (IsLeftRevealing (view beneath).seen))
      (λ e. LeavesOnly (view beneath) (view e.1) (IsLeftRevealing (view beneath).seen))

-- only zeros, or no bytes
abbrev pub are_zeros : Bytes → Bool
are_zeros bytes = list_all (λ b. b == 0) bytes

-- bytes that begin with a settings block whose first byte is still 0
abbrev pub hides_block : Bytes → Bool
hides_block file = is_some (read_settings (take settings_block_size (exchanged file)))

-- the greatest sequence number that a store has before its first byte is written: that of the flush of a copy's pairs
abbrev pub last_of_creation : ℕ
last_of_creation = 2

-- the bytes of an open slot with a greater number
abbrev pub is_later_slot : Bytes → Bool
is_later_slot slot = slice_index slot 0 == 1 && nat_lt last_of_creation (slot_in slot).sequence

-- one of the two slots is such a slot, so a store was complete there, and flushed after that
abbrev pub was_complete : Bytes → Bool
was_complete file =
    nat_le (slots_begin + 2 * slot_size) (length file)
    && (is_later_slot (take slot_size (drop (slot_place 0) file)) || is_later_slot (take slot_size (drop (slot_place 1) file)))

-- bytes that an interrupted attempt to create a store leaves: a hidden settings block, and slots as creation writes them, with anything else after
-- it; only zeros, or no bytes
abbrev pub is_unfinished : Bytes → Bool
is_unfinished file = hides_block file && not (was_complete file) || are_zeros file
