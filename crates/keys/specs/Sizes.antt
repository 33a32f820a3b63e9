-- The sizes in bytes of the parts of a log, without the bytes of keys and values. They are defined here, below the crates of the log, because the
-- longest frame limits the settings.
use Rattle.std.specs.Prelude.{ℕ}

-- the field for the length of a key or a value, or for a number of entries
abbrev pub length_size : ℕ
length_size = 2

-- a page id
abbrev pub pid_size : ℕ
pid_size = 8

-- a segment's header: a word, zeros, and the segment's number
abbrev pub segment_header_size : ℕ
segment_header_size = 16

-- a frame's header: its kind, the length of the rest of the frame, and the page id (1 + 4 + 8)
abbrev pub frame_header_size : ℕ
frame_header_size = 13

-- a full frame without its low key and entries: its header, the low key's length, and the number of entries (13 + 2 + 2)
abbrev pub full_header_size : ℕ
full_header_size = 17

-- a delta frame without its changes: its header, and the number of changes (13 + 2)
abbrev pub delta_header_size : ℕ
delta_header_size = 15

-- a pair without its key and value: their lengths (2 + 2)
abbrev pub pair_header_size : ℕ
pair_header_size = 4

-- a child without its key: the key's length, and the page id (2 + 8)
abbrev pub child_header_size : ℕ
child_header_size = 10

-- a change without its key and cell: the key's length, and the flag (2 + 1)
abbrev pub change_header_size : ℕ
change_header_size = 3
