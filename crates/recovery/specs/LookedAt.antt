-- Which bytes of a disk matter for the store that it encodes.
use Rattle.std.specs.Prelude.{◌⊎◌, ℕ, ◌+◌, ◌<◌, ◌≤◌}
use Rattle.keys.specs.declared.settings.Settings.{Settings}
use Rattle.mapping.specs.Tree.{Store}
use Rattle.flush_log.specs.Segments.{IsInLog}
use Rattle.flush_log.specs.SettingsBlock.{settings_block_size}
use Rattle.flush_log.specs.Slot.{slot_size, slot_place}

-- a place of the slot for this sequence number
abbrev pub IsInSlot : ℕ → ℕ → Type 0
IsInSlot n place = (slot_place n ≤ place) × (place < slot_place n + slot_size)

-- a place of the settings block, of the store's own slot, or of its log up to the tail
abbrev pub IsLookedAt : Settings → Store → ℕ → Type 0
IsLookedAt s st place = (place < settings_block_size) ⊎ (IsInSlot st.sequence place ⊎ IsInLog s st.head st.tail place)
