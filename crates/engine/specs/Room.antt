-- How full a log is: when a store cleans early, when it compacts, and when no clean can help.
use Rattle.std.specs.Prelude.{ℕ, ◌+◌, ◌-◌, ◌*◌, ◌/◌, max, min, Bool, nat_lt, nat_le, length, sum_by, Option, ◌&&◌}
use Rattle.keys.specs.Bytes.{Bytes}
use Rattle.keys.specs.Sizes.{segment_header_size}
use Rattle.keys.specs.declared.settings.Settings.{Settings}
use Rattle.mapping.specs.Levels.{contents}
use Rattle.mapping.specs.Tree.{Store, Tree}
use Rattle.frame_codec.specs.Frame.{bytes_of}
use Rattle.flush_log.specs.Ends.{ends_of}
use Rattle.flush_log.specs.FlushText.{flush_frames}
use Rattle.flush_log.specs.Segments.{last_segment}
use Rattle.cleaner.specs.Live.{live_in}

-- how many segments of the log are in use
abbrev pub segments_in_use : Settings → Store → ℕ
segments_in_use s st = last_segment s st.tail + 1 - st.head

-- how many segments are free
abbrev pub free_segments : Settings → Store → ℕ
free_segments s st = s.segments - segments_in_use s st

-- whether fewer than three segments are free, of 16 or more
abbrev pub is_tight : Settings → Store → Bool
is_tight s st = nat_le 16 s.segments && nat_lt (free_segments s st) 3

-- how many bytes of frames this many segments have room for
abbrev pub room_in : Settings → ℕ → ℕ
room_in s n = n * (s.seg_size - segment_header_size)

-- how many bytes of frames the segments in use have room for
abbrev pub room_in_use : Settings → Store → ℕ
room_in_use s st = room_in s (segments_in_use s st)

-- whether the dead bytes are worth a row of cleans: at least a segment, and at least a sixteenth of the room in use
abbrev pub is_worth : Settings → Store → ℕ → Bool
is_worth s st live = nat_le (max s.seg_size (room_in_use s st / 16)) (room_in_use s st - live)

-- how many bytes the frames have that a flush writes
abbrev pub flush_bytes : Store → ℕ
flush_bytes st = sum_by (λ f. length (bytes_of f)) (flush_frames st.version st.tree)

-- how many bytes of frames a segment has room for, if its unused end, where the next frame did not fit, has 32 bytes for each entry of a page, but at
-- most an eighth of the segment
abbrev pub room_of_frames : Settings → ℕ
room_of_frames s = s.seg_size - segment_header_size - min (32 * s.fan) (s.seg_size / 8)

-- how many bytes of frames a log can have if cleans are to make room: those of all segments but one, as a flush leaves one free
abbrev pub most_live : Settings → ℕ
most_live s = (s.segments - 1) * room_of_frames s

-- whether the live bytes and the bytes that a flush writes exceed that
abbrev pub is_overfull : Settings → Store → ℕ → Bool
is_overfull s st live = nat_lt (most_live s) (live + flush_bytes st)

-- the number of live bytes in a store's log in these bytes, if the log is sound
abbrev pub live_known : Settings → Store → Bytes → Option ℕ
live_known s st file = live_in (record { settings = s; version = st.version }) (ends_of st) file

-- whether at least two thirds of the segments are in use
abbrev pub is_two_thirds_full : Settings → Store → Bool
is_two_thirds_full s st = nat_le (2 * s.segments) (3 * segments_in_use s st)

-- whether a tree has more pages than its pairs account for
abbrev pub is_bloated : Settings → Tree → Bool
is_bloated s t = nat_lt (4 * length (contents t) / s.fan + 4 * t.height) (length t.pages)
