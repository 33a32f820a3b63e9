-- A planned commit: which frames it adds to which log, and that it does not fail.
use Rattle.std.specs.Prelude.{◌≡◌, ◌⊎◌, ℕ, suc, ◌≤◌, true, false, List, [], length, Result}
use Rattle.std.specs.List.{AllByRecursion}
use Rattle.keys.specs.Bytes.{Bytes}
use Rattle.keys.specs.declared.fault.Fault.{Fault}
use Rattle.keys.specs.declared.settings.Settings.{Settings}
use Rattle.frame_codec.specs.declared.format.Format.{Format}
use Rattle.frame_codec.specs.Frame.{Frame, is_frame}
use Rattle.flush_log.specs.AfterFlush.{is_spent}
use Rattle.flush_log.specs.Commit.{AreWithin, committed, IsUncommitted}
use Rattle.flush_log.specs.Images.{AreOfText, admitted}
use Rattle.flush_log.specs.Layout.{tail_after, spans, is_full_for_flush}
use Rattle.flush_log.specs.Segments.{disk_size}
use Rattle.flush_log.specs.Slot.{Slot, format_of}

-- these images consist of these frames, and a log of this format may contain each of them; there are no images, or there is a frame
pub record AreImages (g : Format) (text : List Frame) (images : List (List Bytes)) : Type 0 where
  pub of : AreOfText images text
  pub some : (images ≡ []) ⊎ (1 ≤ length text)
  pub within : AllByRecursion (λ f. is_frame g f ≡ true) text

-- the slot of the commit that adds these frames to the log of slot t: the next number, and the tail after the frames; for an upgrade, t already has
-- the second version
abbrev pub next_slot : Settings → Slot → List Frame → Slot
next_slot s t text = record { sequence = suc t.sequence; head = t.head; tail = tail_after s t.tail text; root = t.root; height = t.height; version = t.version }

-- the tail of that slot, or the fault: its numbers are exhausted, or no segment would be free
abbrev pub next_tail : Settings → Slot → List Frame → Result ℕ Fault
next_tail s t text = admitted (next_slot s t text) (is_full_for_flush s t.head (tail_after s t.tail text))

-- a planned commit: the images, the tail from which they are written, the slot that commits them, and the capacity of the buffer
pub record CommitPlan : Type 0 where
  pub images : List (List Bytes)
  pub tail : ℕ
  pub slot : Slot
  pub room : ℕ

-- it is the commit that adds these frames to the log of slot t, and it does not fail: the frames lie within the disk, and the buffer has room for a
-- segment
pub record IsPlanned (s : Settings) (t : Slot) (text : List Frame) (p : CommitPlan) : Type 0 where
  pub encoded : AreImages (format_of s t) text p.images
  pub from : p.tail ≡ t.tail
  pub slot : p.slot ≡ next_slot s t text
  pub unspent : is_spent (next_slot s t text) ≡ false
  pub free : is_full_for_flush s t.head (tail_after s t.tail text) ≡ false
  pub within : AreWithin s (disk_size s) (spans s t.tail text)
  pub room : s.seg_size ≤ p.room

-- the bytes of a disk after the commit
abbrev pub file_with : Settings → Slot → List Frame → Bytes → Bytes
file_with s t text file = committed s file (spans s t.tail text) (next_slot s t text)

-- what a crash may leave of the commit: bytes in which it is not committed, or the bytes after it
abbrev pub LeftOf : Settings → Slot → List Frame → Bytes → Bytes → Type 0
LeftOf s t text file c = IsUncommitted s (suc t.sequence) (spans s t.tail text) file c ⊎ (c ≡ file_with s t text file)
