-- The result of scanning a segment.
use Rattle.std.specs.Prelude.{ℕ, Bool, List, map, fold, Vec, Result, Ok, Err}
use Rattle.keys.specs.Bytes.{Bytes}
use Rattle.keys.specs.declared.fault.Fault.{Fault}
use Rattle.frame_codec.specs.declared.format.Format.{Format}
use Rattle.frame_codec.specs.Frame.{bytes_of}
use Rattle.frame_codec.specs.Skimmed.{kind_of}
use Rattle.frame_codec.specs.declared.skim.FrameKind.{FrameKind}
use Rattle.flush_log.specs.Reading.{Found, is_at_tail, is_padding, read_segment, followed_by}
use Rattle.recovery.specs.declared.scan_segment.End.{End}
use Rattle.recovery.specs.declared.scan_segment.End.TheVariants.{Tail, Padding}
use Rattle.recovery.specs.declared.scan_segment.ScanDone.{ScanDone}
use Rattle.recovery.specs.declared.scan_segment.ScannedFrame.{ScannedFrame}
use Rattle.recovery.specs.declared.scan_segment.Segment.{Segment}

-- ---- segments

-- whether the frames of a segment with this kind of end are at their end before these bytes
abbrev pub is_end_at : End → Bytes → Bool
is_end_at Tail rest = is_at_tail rest
is_end_at Padding rest = is_padding rest

-- a segment's number, the kind of its end, and its bytes
pub record HeldSegment : Type 0 where
  pub number : ℕ
  pub end : End
  pub bytes : Bytes

abbrev pub held_segment : Segment → HeldSegment
held_segment g = record { number = g.number; end = g.end; bytes = g.bytes.now }

-- its frames, or its first fault
abbrev pub scanned : Format → HeldSegment → Result (List Found) Fault
scanned s g = read_segment s (is_end_at g.end) g.number g.bytes

-- the frames found before, followed by those of these segments in order; or the first fault
abbrev pub scanned_after : Format → Result (List Found) Fault → List HeldSegment → Result (List Found) Fault
scanned_after s state segments = fold followed_by state (map (scanned s) segments)

-- ---- frames that are not decoded

-- a frame that is not decoded: the number of its segment, its page, its kind, and its bytes
pub record HeldFrame : Type 0 where
  pub segment : ℕ
  pub pid : ℕ
  pub kind : FrameKind
  pub bytes : Bytes

-- a found frame in this form
abbrev pub said_of_frame : Found → HeldFrame
said_of_frame f = record { segment = f.segment; pid = f.frame.pid; kind = kind_of f.frame.content; bytes = bytes_of f.frame }

-- all found frames in this form; or the fault
abbrev pub said_of : Result (List Found) Fault → Result (List HeldFrame) Fault
said_of (Ok found) = Ok (map said_of_frame found)
said_of (Err fault) = Err fault

-- a scanned frame of segment n in this form
abbrev pub held_frame : ℕ → ScannedFrame → HeldFrame
held_frame n k = record { segment = n; pid = k.pid; kind = k.kind; bytes = k.bytes.now }

-- all scanned frames of segment n in this form, or the fault
abbrev pub frames_held : {A : Type 0} → ℕ → Result (Vec ScannedFrame A) Fault → Result (List HeldFrame) Fault
frames_held n (Ok frames) = Ok (map (held_frame n) frames.items)
frames_held n (Err fault) = Err fault

abbrev pub said_by_scan : ScanDone → Result (List HeldFrame) Fault
said_by_scan d = frames_held d.segment.number d.scan
