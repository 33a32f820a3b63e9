-- The places of frames after a tail, the bytes that are written for them, and when there is no room.
use Rattle.std.specs.Prelude.{ℕ, zero, suc, ◌+◌, ◌-◌, ◌/◌, ◌%◌, Bool, ◌==◌, nat_le, if◌then◌else◌, List, [], ◌∷◌, ◌++◌, length, map, replicate}
use Rattle.keys.specs.Bytes.{Bytes}
use Rattle.keys.specs.Sizes.{segment_header_size}
use Rattle.keys.specs.declared.settings.Settings.{Settings}
use Rattle.frame_codec.specs.Frame.{Frame, bytes_of}
use Rattle.flush_log.specs.Overlay.{overlay}
use Rattle.flush_log.specs.Reading.{Found}
use Rattle.flush_log.specs.Segments.{segment_header, place_of_segment, position, last_segment}

-- ---- places

-- a frame and its place
pub record PlacedFrame : Type 0 where
  pub segment : ℕ
  pub offset : ℕ
  pub frame : Frame

-- the offset after a frame
abbrev pub offset_after : PlacedFrame → ℕ
offset_after p = p.offset + length (bytes_of p.frame)

-- the frames with their places, from an offset of segment n on: each where it fits into the segment, else after the header of the next segment
abbrev pub placed_from : Settings → ℕ → ℕ → List Frame → List PlacedFrame
placed_from s n offset [] = []
placed_from s n offset (f ∷ fs) =
    if nat_le (offset + length (bytes_of f)) s.seg_size
    then record { segment = n; offset = offset; frame = f } ∷ placed_from s n (offset + length (bytes_of f)) fs
    else (record { segment = suc n; offset = segment_header_size; frame = f } ∷ placed_from s (suc n) (segment_header_size + length (bytes_of f)) fs)

-- the first place for a frame in a segment that is used up to this offset, which must be after the header
abbrev pub past_header : ℕ → ℕ
past_header zero = segment_header_size
past_header (suc offset) = suc offset

-- the places of frames that are written from the tail on
abbrev pub placed : Settings → ℕ → List Frame → List PlacedFrame
placed s tail text = placed_from s (tail / s.seg_size) (past_header (tail % s.seg_size)) text

-- the position after the last of these frames
abbrev pub end_of_frames : Settings → ℕ → List PlacedFrame → ℕ
end_of_frames s tail [] = tail
end_of_frames s tail (p ∷ ps) = end_of_frames s (position s p.segment (offset_after p)) ps

-- the tail after frames
abbrev pub tail_after : Settings → ℕ → List Frame → ℕ
tail_after s tail text = end_of_frames s tail (placed s tail text)

-- the frames as a reading of the log finds them
abbrev pub found_in_text : Settings → ℕ → List Frame → List Found
found_in_text s tail text = map (λ p. record { segment = p.segment; frame = p.frame }) (placed s tail text)

-- a log with this tail leaves no segment free, which a flush must leave for a clean
abbrev pub is_full_for_flush : Settings → ℕ → ℕ → Bool
is_full_for_flush s head tail = nat_le (head + s.segments - 1) (last_segment s tail)

-- a clean with this tail needs more segments than there are
abbrev pub is_full_for_clean : Settings → ℕ → ℕ → Bool
is_full_for_clean s head tail = nat_le (head + s.segments) (last_segment s tail)

-- ---- bytes

-- bytes that are written at an offset of a segment
pub record Span : Type 0 where
  pub segment : ℕ
  pub offset : ℕ
  pub bytes : Bytes

-- the offset after them
abbrev pub end_of : Span → ℕ
end_of r = r.offset + length r.bytes

-- the span with more bytes
abbrev pub longer : Span → Bytes → Span
longer r bytes = record { segment = r.segment; offset = r.offset; bytes = r.bytes ++ bytes }

-- the span with zeros up to the end of its segment
abbrev pub filled : Settings → Span → Span
filled s r = longer r (replicate (s.seg_size - end_of r) 0)

-- a segment's header followed by these bytes
abbrev pub begun : ℕ → Bytes → Span
begun n bytes = record { segment = n; offset = 0; bytes = segment_header n ++ bytes }

-- the first span of a commit: empty, or the header if the segment is new
abbrev pub opened : ℕ → ℕ → Span
opened n zero = begun n []
opened n (suc offset) = record { segment = n; offset = suc offset; bytes = [] }

-- the spans of these frames, where the first span is still open: each segment that is left is filled with zeros, and the next one is begun
abbrev pub spans_from : Settings → Span → List PlacedFrame → List Span
spans_from s r [] = r ∷ []
spans_from s r (p ∷ ps) =
    if p.segment == r.segment
    then spans_from s (longer r (bytes_of p.frame)) ps
    else (filled s r ∷ spans_from s (begun p.segment (bytes_of p.frame)) ps)

-- what is written for frames from the tail on, one span for each segment
abbrev pub spans : Settings → ℕ → List Frame → List Span
spans s tail [] = []
spans s tail (f ∷ fs) = spans_from s (opened (tail / s.seg_size) (tail % s.seg_size)) (placed s tail (f ∷ fs))

-- the offset of a span in a file
abbrev pub place_of_span : Settings → Span → ℕ
place_of_span s r = place_of_segment s r.segment + r.offset

-- the bytes of a file after these spans are written
abbrev pub with_spans : Settings → Bytes → List Span → Bytes
with_spans s file [] = file
with_spans s file (r ∷ rs) = with_spans s (overlay file (place_of_span s r) r.bytes) rs
