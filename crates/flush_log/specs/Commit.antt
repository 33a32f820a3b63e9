-- The disk calls of a commit, which makes a new slot the store's, and what a crash may leave of them.
use Rattle.std.specs.Prelude.{◌≡◌, ◌⊎◌, ℕ, ◌+◌, ◌<◌, ◌≤◌, Bool, true, false, List, [], ◌∷◌, ◌++◌, map, length, take, None, Ok}
use Rattle.std.specs.List.{AllByRecursion}
use Rattle.keys.specs.Bytes.{Bytes}
use Rattle.keys.specs.Limits.{first_bad_field}
use Rattle.keys.specs.declared.settings.Settings.{Settings}
use Rattle.frame_codec.specs.declared.format.Format.{Format}
use Rattle.frame_codec.specs.Frame.{Frame, is_frame}
use Rattle.flush_log.specs.Overlay.{overlay, IsBeside, AgreeAt}
use Rattle.flush_log.specs.Segments.{HasSegments, last_segment}
use Rattle.flush_log.specs.Layout.{Span, tail_after, place_of_span, with_spans}
use Rattle.flush_log.specs.Disk.{Torn}
use Rattle.flush_log.specs.Slot.{Slot, slot_size, slot_place, slot_body, slot_bytes, is_open, store_slot}

-- ---- disk calls

-- a call that changes a disk: a write of bytes at an offset, or a sync
pub data Call : Type 0 where
  Write : ℕ → Bytes → Call
  Sync : Call

-- the readable contents after these calls, from those before
abbrev pub seen_after : List Call → Bytes → Bytes
seen_after [] seen = seen
seen_after (Write at bytes ∷ calls) seen = seen_after calls (overlay seen at bytes)
seen_after (Sync ∷ calls) seen = seen_after calls seen

-- What a crash after these calls may leave, where `seen` was readable before them, and `might` are the outcomes of a crash before them. Until a sync,
-- written ranges may have any contents; after a sync, the readable contents are left.
abbrev pub MayLeave : List Call → Bytes → (Bytes → Type 0) → Bytes → Type 0
MayLeave [] seen might c = might c
MayLeave (Write at bytes ∷ calls) seen might c = MayLeave calls (overlay seen at bytes) (λ e. (d : Bytes) × might d × Torn at (length bytes) d e) c
MayLeave (Sync ∷ calls) seen might c = MayLeave calls seen (λ e. e ≡ seen) c

-- What a crash at some moment of these calls may leave of a synced disk: an outcome of a crash after the first k calls. A crash during a write, or
-- after a failed one, has the outcomes of a crash after it; a failed sync makes nothing durable.
abbrev pub LeftDuring : List Call → Bytes → Bytes → Type 0
LeftDuring calls file c = (k : ℕ) × MayLeave (take k calls) file (λ d. d ≡ file) c

-- ---- the calls of the commit of slot t

-- each span lies within a file of `long` bytes
abbrev pub AreWithin : Settings → ℕ → List Span → Type 0
AreWithin s long spans = AllByRecursion (λ r. place_of_span s r + length r.bytes ≤ long) spans

-- step 1: if the gate of the slot is open, it is closed
abbrev pub close_gate : Bool → ℕ → List Call
close_gate true place = Write place (0 ∷ []) ∷ []
close_gate false place = []

-- what a crash may leave during that step
abbrev pub IsClosing : Bool → ℕ → Bytes → Bytes → Type 0
IsClosing true place file c = Torn place 1 file c
IsClosing false place file c = c ≡ file

-- steps 1 to 5: the gate is closed, the spans are written, and then the slot's bytes after its gate; both writes are synced
abbrev pub prepare : Settings → Bytes → List Span → Slot → List Call
prepare s file spans t =
    close_gate (is_open t.sequence file) (slot_place t.sequence)
    ++ (map (λ r. Write (place_of_span s r) r.bytes) spans
    ++ (Sync ∷ Write (slot_place t.sequence + 1) (slot_body t) ∷ Sync ∷ []))

-- steps 6 and 7: the gate is opened, and synced
abbrev pub open_gate : Slot → List Call
open_gate t = Write (slot_place t.sequence) (1 ∷ []) ∷ Sync ∷ []

-- the seven steps, on a disk with these bytes
abbrev pub commit_calls : Settings → Bytes → List Span → Slot → List Call
commit_calls s file spans t = prepare s file spans t ++ open_gate t

-- the bytes after the commit
abbrev pub committed : Settings → Bytes → List Span → Slot → Bytes
committed s file spans t = overlay (with_spans s file spans) (slot_place t.sequence) (slot_bytes t)

-- there is room for these frames of this format after the tail of the disk's slot, on a disk with room for all segments
pub record HasRoom (g : Format) (file : Bytes) (t : Slot) (text : List Frame) : Type 0 where
  pub good : first_bad_field g.settings ≡ None
  pub whole : HasSegments g.settings file
  pub slot : store_slot g.settings file ≡ Ok t
  pub within : AllByRecursion (λ f. is_frame g f ≡ true) text
  pub free : last_segment g.settings (tail_after g.settings t.tail text) < t.head + g.settings.segments

-- ---- the outcomes of a crash

-- what a crash may leave while slot n is written with its gate closed: the gate is still closed, and everything outside the slot is unchanged
abbrev pub LeavesGateClosed : ℕ → Bytes → Bytes → Type 0
LeavesGateClosed n file c = (is_open n c ≡ false) × AgreeAt (IsBeside (slot_place n) slot_size) file c

-- a place is in none of these spans
abbrev pub IsBesideSpans : Settings → List Span → ℕ → Type 0
IsBesideSpans s spans place = AllByRecursion (λ r. IsBeside (place_of_span s r) (length r.bytes) place) spans

-- a place is in none of these spans, and not in slot n
abbrev pub IsBesideSlot : Settings → ℕ → List Span → ℕ → Type 0
IsBesideSlot s n spans place = IsBeside (slot_place n) slot_size place × IsBesideSpans s spans place

-- what a crash may leave of an unfinished commit: slot n is unchanged, or closed with any bytes after its gate; and everything else is unchanged,
-- except for these spans
abbrev pub IsUncommitted : Settings → ℕ → List Span → Bytes → Bytes → Type 0
IsUncommitted s n spans file c = AgreeAt (IsBesideSpans s spans) file c ⊎ ((is_open n c ≡ false) × AgreeAt (IsBesideSlot s n spans) file c)
