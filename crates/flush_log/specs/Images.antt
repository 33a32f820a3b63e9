-- The frames of a commit in the code's form: images, each of which is a list of encoded frames. And how such frames move the end of a log.
use Rattle.std.specs.Prelude.{◌≡◌, ◌⊎◌, ℕ, suc, ◌+◌, ◌*◌, ◌/◌, ◌%◌, ◌≤◌, Bool, nat_le, nat_lt, if◌then◌else◌, List, [], ◌∷◌, ◌++◌, length, map, slice_range, Option, Some, None, Result, Ok, Err}
use Rattle.std.specs.List.{AllByRecursion}
use Rattle.keys.specs.Bytes.{Bytes}
use Rattle.keys.specs.Sizes.{segment_header_size}
use Rattle.keys.specs.declared.settings.Settings.{Settings}
use Rattle.keys.specs.declared.fault.Fault.{Fault}
use Rattle.keys.specs.declared.fault.Fault.TheVariants.{Full, Spent}
use Rattle.frame_codec.specs.Frame.{Frame, bytes_of}
use Rattle.flush_log.specs.AfterFlush.{is_spent}
use Rattle.flush_log.specs.Layout.{past_header, tail_after}
use Rattle.flush_log.specs.Segments.{position}
use Rattle.flush_log.specs.Slot.{Slot, greatest}

-- ---- images

-- the parts of these bytes: the first one begins at a place, each goes up to its end, and the next one begins there
abbrev pub cut_at : ℕ → Bytes → List ℕ → List Bytes
cut_at from bytes [] = []
cut_at from bytes (end ∷ ends) = slice_range bytes from end ∷ cut_at end bytes ends

-- the encoded frames of these images
abbrev pub frames_in : List (List Bytes) → List Bytes
frames_in [] = []
frames_in (image ∷ images) = image ++ frames_in images

-- these are the encodings of these frames
abbrev pub AreOfText : List (List Bytes) → List Frame → Type 0
AreOfText images text = frames_in images ≡ map (λ f. bytes_of f) text

-- a property of the frames whose encodings they are; there are no images, or there is a frame
abbrev pub ForText : List (List Bytes) → (List Frame → Type 0) → Type 0
ForText images holds = (text : List Frame) → AreOfText images text → (images ≡ []) ⊎ (1 ≤ length text) → holds text

-- there is room for them after this tail: they end at most at the greatest position
abbrev pub HaveRoomAfter : Settings → ℕ → List (List Bytes) → Type 0
HaveRoomAfter s tail images = (text : List Frame) × AreOfText images text × (tail_after s tail text ≤ greatest)

-- each of these frames fits into a segment, after its header
abbrev pub FitSegments : Settings → List Bytes → Type 0
FitSegments s frames = AllByRecursion (λ bytes. segment_header_size + length bytes ≤ s.seg_size) frames

-- ---- the end of a log

-- the segment and the offset of the next frame if it fits there, and the position after the last frame
pub record Reached : Type 0 where
  pub segment : ℕ
  pub offset : ℕ
  pub tail : ℕ

-- where frames begin that are written from this tail on
abbrev pub from_tail : Settings → ℕ → Reached
from_tail s tail = record { segment = tail / s.seg_size; offset = past_header (tail % s.seg_size); tail = tail }

-- the end after this offset of a segment
abbrev pub reached : Settings → ℕ → ℕ → Reached
reached s n offset = record { segment = n; offset = offset; tail = position s n offset }

-- the end after one more frame of `size` bytes
abbrev pub after_frame : Settings → Reached → ℕ → Reached
after_frame s r size =
    if nat_le (r.offset + size) s.seg_size
    then reached s r.segment (r.offset + size)
    else reached s (suc r.segment) (segment_header_size + size)

-- the end after all of these frames
abbrev pub after_frames : Settings → Reached → List Bytes → Reached
after_frames s r [] = r
after_frames s r (bytes ∷ frames) = after_frames s (after_frame s r (length bytes)) frames

-- the offset is within its segment, and the position after the last frame is between the segment's start and the offset
pub record IsReached (s : Settings) (r : Reached) : Type 0 where
  pub within : r.offset ≤ s.seg_size
  pub above : r.segment * s.seg_size ≤ r.tail
  pub below : r.tail ≤ position s r.segment r.offset

-- None, if the position is above the greatest
abbrev pub unless_spent : Reached → Option Reached
unless_spent r = if nat_lt greatest r.tail then None else Some r

-- the tail of a commit's slot, or the fault: its numbers are exhausted, or the log is full
abbrev pub admitted : Slot → Bool → Result ℕ Fault
admitted t is_full = if is_spent t then Err Spent else (if is_full then Err Full else Ok t.tail)
