-- The frames of the log between head and tail.
use Rattle.std.specs.Prelude.{ℕ, zero, suc, ◌+◌, ◌-◌, Bool, true, false, nat_eq, if◌then◌else◌, List, [], ◌∷◌, ◌++◌, length, map, take, drop, Option, Some, None, Result, Ok, Err}
use Rattle.std.specs.List.{starts_with}
use Rattle.keys.specs.Bytes.{Bytes}
use Rattle.keys.specs.Sizes.{segment_header_size}
use Rattle.keys.specs.declared.settings.Settings.{Settings}
use Rattle.keys.specs.declared.fault.Fault.{Fault}
use Rattle.keys.specs.declared.fault.Fault.TheVariants.{BadSegment, BadFrame}
use Rattle.frame_codec.specs.declared.format.Format.{Format}
use Rattle.frame_codec.specs.Frame.{Frame}
use Rattle.frame_codec.specs.Reading.{read_frame}
use Rattle.flush_log.specs.Segments.{segment_header, segment_bytes, last_segment, bytes_in_use}
use Rattle.flush_log.specs.Slot.{Slot, format_of}

-- a frame, and the number of its segment
pub record Found : Type 0 where
  pub segment : ℕ
  pub frame : Frame

-- ---- one segment

-- where the frames of the last segment end: at the tail, where no byte remains
abbrev pub is_at_tail : Bytes → Bool
is_at_tail [] = true
is_at_tail (b ∷ bytes) = false

-- where the frames of an earlier segment end: where only zeros remain, or nothing
abbrev pub is_padding : Bytes → Bool
is_padding [] = true
is_padding (zero ∷ bytes) = is_padding bytes
is_padding (suc b ∷ bytes) = false

-- one more frame in front of those that were read
abbrev pub with_first : Frame → Result (List Frame) ℕ → Result (List Frame) ℕ
with_first f (Ok fs) = Ok (f ∷ fs)
with_first f (Err left) = Err left

-- the frame that was read, and what is read after it; if none was read, the number of remaining bytes
abbrev pub read_then : ℕ → Option (Frame × Bytes) → (Bytes → Result (List Frame) ℕ) → Result (List Frame) ℕ
read_then left None next = Err left
read_then left (Some read) next = with_first read.0 (next read.1)

-- the frames that the bytes consist of, up to a number of frames and up to their end; or the number of remaining bytes at which there is neither a
-- frame nor the end
abbrev pub read_frames : Format → (Bytes → Bool) → ℕ → Bytes → Result (List Frame) ℕ
read_frames g is_end zero bytes = if is_end bytes then Ok [] else Err (length bytes)
read_frames g is_end (suc most) bytes =
    if is_end bytes then Ok [] else read_then (length bytes) (read_frame g bytes) (λ following. read_frames g is_end most following)

-- these frames as found in segment n
abbrev pub all_in : ℕ → List Frame → List Found
all_in n fs = map (λ f. record { segment = n; frame = f }) fs

-- the frames of segment n, which has `long` bytes; or the fault, at the offset after which `left` bytes follow
abbrev pub in_segment : ℕ → ℕ → Result (List Frame) ℕ → Result (List Found) Fault
in_segment n long (Ok fs) = Ok (all_in n fs)
in_segment n long (Err left) = Err (BadFrame n (long - left))

-- the contents of these bytes of segment n: the frames after its header, up to their end
abbrev pub read_segment : Format → (Bytes → Bool) → ℕ → Bytes → Result (List Found) Fault
read_segment g is_end n bytes =
    if starts_with nat_eq bytes (segment_header n)
    then in_segment n (length bytes) (read_frames g is_end (length bytes) (drop segment_header_size bytes))
    else Err (BadSegment n)

-- ---- the log

-- the frames found first, followed by the others; or the first fault
abbrev pub followed_by : Result (List Found) Fault → Result (List Found) Fault → Result (List Found) Fault
followed_by (Ok found) (Ok more) = Ok (found ++ more)
followed_by (Ok found) (Err fault) = Err fault
followed_by (Err fault) next = Err fault

-- the frames of k segments from the head on, none of them the last segment
abbrev pub read_earlier : Format → Bytes → ℕ → ℕ → Result (List Found) Fault
read_earlier g file head zero = Ok []
read_earlier g file head (suc k) = followed_by (read_earlier g file head k) (read_segment g is_padding (head + k) (segment_bytes g.settings file (head + k)))

-- the frames of those, and of the first `used` bytes of the next segment
abbrev pub read_log : Format → Bytes → ℕ → ℕ → ℕ → Result (List Found) Fault
read_log g file head k used = followed_by (read_earlier g file head k) (read_segment g is_at_tail (head + k) (take used (segment_bytes g.settings file (head + k))))

-- the frames between head and tail, in the order of their positions; or the fault at the least position
abbrev pub log_between : Format → Bytes → ℕ → ℕ → Result (List Found) Fault
log_between g file head tail = read_log g file head (last_segment g.settings tail - head) (bytes_in_use g.settings tail)

-- the frames between the head and the tail of a slot
abbrev pub log : Settings → Bytes → Slot → Result (List Found) Fault
log s file t = log_between (format_of s t) file t.head t.tail
