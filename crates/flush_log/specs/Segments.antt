-- The segments of a disk: their places, and their headers. Segment numbers only grow; segment n reuses the place of segment n - segments.
use Rattle.std.specs.Prelude.{◌≡◌, ℕ, ◌+◌, ◌-◌, ◌*◌, ◌/◌, ◌%◌, ◌<◌, ◌≤◌, ◌++◌, length, take, drop, codes}
use Rattle.keys.specs.Bytes.{Bytes}
use Rattle.keys.specs.Cells.{number}
use Rattle.keys.specs.declared.settings.Settings.{Settings}

-- the word at the beginning of a segment
abbrev pub segment_magic : Bytes
segment_magic = codes "BWSG"

-- the header of segment n
abbrev pub segment_header : ℕ → Bytes
segment_header n = segment_magic ++ ((number 4).encode 0 ++ (number 8).encode n)

-- the offset of the first segment in a file: after the settings block and the slots
abbrev pub segments_begin : ℕ
segments_begin = 512

-- the offset of segment n in a file
abbrev pub place_of_segment : Settings → ℕ → ℕ
place_of_segment s n = segments_begin + n % s.segments * s.seg_size

-- the least size of a disk in bytes
abbrev pub disk_size : Settings → ℕ
disk_size s = segments_begin + s.segments * s.seg_size

-- the file has room for all segments
abbrev pub HasSegments : Settings → Bytes → Type 0
HasSegments s file = disk_size s ≤ length file

-- the bytes of segment n
abbrev pub segment_bytes : Settings → Bytes → ℕ → Bytes
segment_bytes s file n = take s.seg_size (drop (place_of_segment s n) file)

-- the position of an offset in segment n
abbrev pub position : Settings → ℕ → ℕ → ℕ
position s n offset = n * s.seg_size + offset

-- a place of the log: that of an offset in a segment from the head on, with a position below the tail
pub record IsInLog (s : Settings) (head tail : ℕ) (place : ℕ) : Type 0 where
  pub segment : ℕ
  pub offset : ℕ
  pub from_head : head ≤ segment
  pub in_segment : offset < s.seg_size
  pub before_tail : position s segment offset < tail
  pub stands : place ≡ place_of_segment s segment + offset

-- the last segment in use
abbrev pub last_segment : Settings → ℕ → ℕ
last_segment s tail = (tail - 1) / s.seg_size

-- the number of its bytes in use
abbrev pub bytes_in_use : Settings → ℕ → ℕ
bytes_in_use s tail = tail - last_segment s tail * s.seg_size
