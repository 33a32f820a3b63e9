-- The settings block at the beginning of a disk.
use Rattle.std.specs.Prelude.{ℕ, ◌&&◌, nat_le, if◌then◌else◌, ◌++◌, length, take, drop, replicate, Option, Some, None, is_none, Result, Ok, Err, codes}
use Rattle.std.specs.Str.{bytes_eq}
use Rattle.keys.specs.Bytes.{Bytes}
use Rattle.keys.specs.Cells.{read_number, number}
use Rattle.keys.specs.Limits.{first_bad_field}
use Rattle.keys.specs.declared.settings.Settings.{Settings}
use Rattle.keys.specs.declared.fault.Fault.{Fault}
use Rattle.keys.specs.declared.fault.Fault.TheVariants.{NotAStore}
use Rattle.flush_log.specs.Segments.{disk_size}

-- the decoded number, or 0
abbrev pub number_or_0 : Option (ℕ × Bytes) → ℕ
number_or_0 None = 0
number_or_0 (Some p) = p.0

-- the number of w bytes at this place, or 0 if there are fewer bytes
abbrev pub number_at : ℕ → ℕ → Bytes → ℕ
number_at w place bytes = number_or_0 (read_number w (drop place bytes))

-- the word at the beginning of a disk
abbrev pub store_magic : Bytes
store_magic = codes "BWBATCH1"

-- the size of the block in bytes
abbrev pub settings_block_size : ℕ
settings_block_size = 64

-- the bytes of the block: its word, the numbers, and zeros
abbrev pub settings_block : Settings → Bytes
settings_block s =
    store_magic
    ++ (number 2).encode s.fan ++ (number 2).encode s.chain ++ (number 2).encode s.max_key ++ (number 2).encode s.max_value
    ++ (number 4).encode s.seg_size ++ (number 4).encode s.segments
    ++ replicate 40 0

-- the settings from the numbers in the block, each given by its size in bytes and its place
abbrev pub settings_in : Bytes → Settings
settings_in bytes = record {
  fan = number_at 2 8 bytes;
  chain = number_at 2 10 bytes;
  max_key = number_at 2 12 bytes;
  max_value = number_at 2 14 bytes;
  seg_size = number_at 4 16 bytes;
  segments = number_at 4 20 bytes;
}

-- the settings whose encoding these bytes are, exactly, if they are valid
abbrev pub read_settings : Bytes → Option Settings
read_settings bytes =
    if bytes_eq (settings_block (settings_in bytes)) bytes && is_none (first_bad_field (settings_in bytes))
    then Some (settings_in bytes)
    else None

-- the settings that were decoded from a disk, if it has room for all segments
abbrev pub where_it_has_room : Bytes → Option Settings → Result Settings Fault
where_it_has_room disk None = Err NotAStore
where_it_has_room disk (Some s) = if nat_le (disk_size s) (length disk) then Ok s else Err NotAStore

-- the settings of the store on a disk
abbrev pub store_settings : Bytes → Result Settings Fault
store_settings disk = where_it_has_room disk (read_settings (take settings_block_size disk))
