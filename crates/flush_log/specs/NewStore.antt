-- A disk with a new store.
use Rattle.std.specs.Prelude.{ℕ, ◌+◌, ◌-◌, [], ◌++◌, replicate}
use Rattle.keys.specs.Bytes.{Bytes}
use Rattle.keys.specs.declared.settings.Settings.{Settings}
use Rattle.keys.specs.declared.version.Version.TheVariants.{One}
use Rattle.frame_codec.specs.declared.format.KeyEncoding.TheVariants.{Whole}
use Rattle.frame_codec.specs.Frame.{Frame, bytes_of}
use Rattle.frame_codec.specs.Frame.Content.{FullLeaf}
use Rattle.flush_log.specs.Overlay.{overlay}
use Rattle.flush_log.specs.Segments.{segment_header, segments_begin}
use Rattle.flush_log.specs.SettingsBlock.{settings_block_size, settings_block}
use Rattle.flush_log.specs.Slot.{Slot, slot_size, slot_place, slot_bytes}

-- its log has version 1 and one frame: an empty leaf with the pid 0
abbrev pub first_frame : Frame
first_frame = record { pid = 0; content = FullLeaf Whole [] [] }

-- the end of the log: after the header of segment 0 and that frame (16 + 17)
abbrev pub first_tail : ℕ
first_tail = 33

-- that leaf is the root
abbrev pub first_slot : Slot
first_slot = record { sequence = 1; head = 0; tail = first_tail; root = 0; height = 1; version = One }

-- the bytes up to that tail: the settings block, slot 1, zeros in the rest before the segments, and the beginning of segment 0
abbrev pub new_bytes : Settings → Bytes
new_bytes s =
    settings_block s
    ++ (replicate (slot_place 1 - settings_block_size) 0
    ++ (slot_bytes first_slot
    ++ (replicate (segments_begin - (slot_place 1 + slot_size)) 0
    ++ (segment_header 0 ++ bytes_of first_frame))))

-- the disk after the creation of a store, whatever its other bytes are
abbrev pub disk_of_new : Settings → Bytes → Bytes
disk_of_new s disk = overlay disk 0 (new_bytes s)
