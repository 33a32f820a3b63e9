-- The two slots: where the log begins and ends, the root, and the version of the log. The open slot with the greater sequence number is the
-- store's.
use Rattle.std.specs.Prelude.{ℕ, ◌+◌, ◌*◌, ◌%◌, ◌^◌, Bool, ◌&&◌, ◌||◌, ◌==◌, nat_le, nat_lt, if◌then◌else◌, ◌∷◌, ◌++◌, take, drop, replicate, slice_index, Option, Some, None, Result, Ok, Err}
use Rattle.std.specs.Str.{bytes_eq}
use Rattle.keys.specs.Bytes.{Bytes}
use Rattle.keys.specs.Cells.{number}
use Rattle.keys.specs.Limits.{is_in_limits}
use Rattle.keys.specs.Sizes.{segment_header_size}
use Rattle.keys.specs.declared.settings.Settings.{Settings}
use Rattle.keys.specs.declared.fault.Fault.{Fault}
use Rattle.keys.specs.declared.fault.Fault.TheVariants.{NoSlot}
use Rattle.keys.specs.declared.version.Version.{Version}
use Rattle.keys.specs.declared.version.Version.TheVariants.{One, Two}
use Rattle.mapping.specs.Tree.{most_levels}
use Rattle.frame_codec.specs.declared.format.Format.{Format}
use Rattle.frame_codec.specs.Frame.{is_pid}
use Rattle.flush_log.specs.Segments.{last_segment}
use Rattle.flush_log.specs.SettingsBlock.{number_at}

-- the contents of a slot: the number of commits, the first segment of the log, the position where the log ends, the root, the number of levels, and
-- the version of the log
pub record Slot : Type 0 where
  pub sequence : ℕ
  pub head : ℕ
  pub tail : ℕ
  pub root : ℕ
  pub height : ℕ
  pub version : Version

-- the format of the frames of a log with this slot
abbrev pub format_of : Settings → Slot → Format
format_of s t = record { settings = s; version = t.version }

-- ---- bytes

-- the encoding of the version in a slot
abbrev pub version_number : Version → ℕ
version_number One = 0
version_number Two = 2

-- the version that is encoded as this number; a number other than 0 and 2 is decoded as the first version, which is not encoded as that number
abbrev pub version_in : ℕ → Version
version_in n = if n == 2 then Two else One

-- the greatest position and the greatest sequence number
abbrev pub greatest : ℕ
greatest = 2 ^ 62

-- the size of a slot in bytes
abbrev pub slot_size : ℕ
slot_size = 64

-- the offset of the slots on a disk
abbrev pub slots_begin : ℕ
slots_begin = 128

-- the offset of the slot for this sequence number; slot 0 is for all even numbers
abbrev pub slot_place : ℕ → ℕ
slot_place n = slots_begin + slot_size * (n % 2)

-- the bytes after the gate: zeros, the numbers, and zeros
abbrev pub slot_body : Slot → Bytes
slot_body t =
    replicate 7 0
    ++ (number 8).encode t.sequence ++ (number 8).encode t.head ++ (number 8).encode t.tail ++ (number 8).encode t.root
    ++ (number 4).encode t.height ++ (number 4).encode (version_number t.version)
    ++ replicate 16 0

-- the bytes of an open slot
abbrev pub slot_bytes : Slot → Bytes
slot_bytes t = 1 ∷ slot_body t

-- the slot from the numbers in these bytes, each given by its size in bytes and its place
abbrev pub slot_in : Bytes → Slot
slot_in bytes = record {
  sequence = number_at 8 8 bytes;
  head = number_at 8 16 bytes;
  tail = number_at 8 24 bytes;
  root = number_at 8 32 bytes;
  height = number_at 4 40 bytes;
  version = version_in (number_at 4 44 bytes);
}

-- ---- a slot that a store with these settings may have

-- a position at which a log may end: at the end of a segment, or after a byte of a frame
abbrev pub is_tail : Settings → ℕ → Bool
is_tail s tail = tail % s.seg_size == 0 || nat_lt segment_header_size (tail % s.seg_size)

-- a store may have this as slot n
abbrev pub is_slot : Settings → ℕ → Slot → Bool
is_slot s n t =
    is_in_limits 1 greatest t.sequence && t.sequence % 2 == n % 2
    && nat_lt (t.head * s.seg_size + segment_header_size) t.tail && nat_le t.tail greatest && is_tail s t.tail
    && nat_lt (last_segment s t.tail) (t.head + s.segments)
    && is_pid t.root && is_in_limits 1 most_levels t.height

-- ---- decoding

-- the gate of slot n is open
abbrev pub is_open : ℕ → Bytes → Bool
is_open n disk = slice_index disk (slot_place n) == 1

-- the slot whose encoding these bytes of an open slot n are, exactly, if a store may have it there
abbrev pub read_open : Settings → ℕ → Bytes → Result (Option Slot) Fault
read_open s n bytes =
    if bytes_eq (slot_bytes (slot_in bytes)) bytes && is_slot s n (slot_in bytes)
    then Ok (Some (slot_in bytes))
    else Err NoSlot

-- slot n of a disk, decoded; None if it is closed
abbrev pub read_slot : Settings → ℕ → Bytes → Result (Option Slot) Fault
read_slot s n disk = if is_open n disk then read_open s n (take slot_size (drop (slot_place n) disk)) else Ok None

-- the slot with the greater sequence number
abbrev pub newer : Result (Option Slot) Fault → Result (Option Slot) Fault → Result Slot Fault
newer (Err fault) other = Err fault
newer (Ok said) (Err fault) = Err fault
newer (Ok None) (Ok None) = Err NoSlot
newer (Ok (Some t)) (Ok None) = Ok t
newer (Ok None) (Ok (Some u)) = Ok u
newer (Ok (Some t)) (Ok (Some u)) = Ok (if nat_lt t.sequence u.sequence then u else t)

-- the slot of the store on a disk
abbrev pub store_slot : Settings → Bytes → Result Slot Fault
store_slot s disk = newer (read_slot s 0 disk) (read_slot s 1 disk)
