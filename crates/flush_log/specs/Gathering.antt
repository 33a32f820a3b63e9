-- Collecting the bytes of frames, segment by segment.
use Rattle.std.specs.Prelude.{suc, ◌+◌, ◌≤◌, nat_le, if◌then◌else◌, List, [], ◌∷◌, length}
use Rattle.keys.specs.Bytes.{Bytes}
use Rattle.keys.specs.declared.settings.Settings.{Settings}
use Rattle.flush_log.specs.Layout.{Span, end_of, longer, filled, begun}
use Rattle.flush_log.specs.declared.write.Part.{Part}

-- the spans that these frames complete, beginning with an open one: a span is completed, and filled with zeros, if a frame does not fit
abbrev pub left_by : Settings → Span → List Bytes → List Span
left_by s r [] = []
left_by s r (bytes ∷ frames) =
    if nat_le (end_of r + length bytes) s.seg_size
    then left_by s (longer r bytes) frames
    else (filled s r ∷ left_by s (begun (suc r.segment) bytes) frames)

-- the span that is still open after these frames
abbrev pub open_after : Settings → Span → List Bytes → Span
open_after s r [] = r
open_after s r (bytes ∷ frames) =
    if nat_le (end_of r + length bytes) s.seg_size
    then open_after s (longer r bytes) frames
    else open_after s (begun (suc r.segment) bytes) frames

-- the collected bytes of a segment, and their place
abbrev pub span_of : Part → Bytes → Span
span_of p bytes = record { segment = p.segment; offset = p.from; bytes = bytes }

-- the span lies within its segment
abbrev pub IsInside : Settings → Span → Type 0
IsInside s r = end_of r ≤ s.seg_size
