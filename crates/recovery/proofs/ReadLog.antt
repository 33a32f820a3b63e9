-- Reading the segments, one after the other.
use Rattle.std.specs.Prelude.{◌≡◌, ℕ, suc, ◌+◌, ◌-◌, ◌*◌, ◌<◌, ◌≤◌, List, [], ◌∷◌, ◌++◌, map, length, take, drop, None, Result, Ok, OnOk}
use Rattle.std.proofs.Common.{refl, sym, ap, subst, ◌∙◌, inl, arith}
use Rattle.std.proofs.lemmas.List.{map-append, take-take}
use Rattle.keys.specs.Limits.{first_bad_field}
use Rattle.keys.specs.declared.settings.Settings.{Settings}
use Rattle.keys.specs.declared.fault.Fault.{Fault}
use Rattle.frame_codec.specs.declared.format.Format.{Format}
use Rattle.flush_log.specs.Disk.{View}
use Rattle.flush_log.specs.Ends.{AreEnds}
use Rattle.flush_log.specs.Overlay.{overlay}
use Rattle.flush_log.specs.Reading.{Found, is_padding, is_at_tail, read_segment, followed_by, read_earlier, log_between}
use Rattle.flush_log.specs.Segments.{segments_begin, disk_size, place_of_segment, HasSegments, segment_bytes, last_segment, bytes_in_use}
use Rattle.flush_log.specs.declared.slot.LogEnds.{LogEnds}
use Rattle.flush_log.proofs.FitLemmas.{are_sized}
use Rattle.flush_log.proofs.LayoutLemmas.{split-tail}
use Rattle.flush_log.proofs.OverlayLemmas.{overlay-part}
use Rattle.flush_log.proofs.PlaceLemmas.{remainders_differ, place-within, places-beside, overlay-beside as part-beside}
use Rattle.flush_log.proofs.ReadBackLemmas.{earlier-same}
use Rattle.recovery.specs.Recovered.{IsReadOf}
use Rattle.recovery.specs.Scan.{HeldSegment, held_segment, scanned, scanned_after}
use Rattle.recovery.specs.declared.scan_segment.End.TheVariants.{Padding}
use Rattle.recovery.specs.declared.scan_segment.Segment.{Segment}

-- what a log holds, or its first fault
abbrev pub ReadResult : Type 0
ReadResult = Result (List Found) Fault

-- ---- one segment, put over the bytes so far

module _ (g : Format) (good : first_bad_field g.settings ≡ None) (file buf : List ℕ) (n : ℕ) (whole : HasSegments g.settings file) (part : length buf ≤ g.settings.seg_size) where
  abbrev pub with_part : List ℕ
  with_part = overlay file (place_of_segment g.settings n) buf

  some_segments : 0 < g.settings.segments
  some_segments = let least = (are_sized g.settings good).least_count in omega arith

  fits : place_of_segment g.settings n + length buf ≤ length file
  fits = let room = place-within g.settings n some_segments in omega (arith, room, whole, part)

  -- what is before the segments stays
  pub part-front : take segments_begin with_part ≡ take segments_begin file
  part-front = let at = fits in part-beside file buf 0 (place_of_segment g.settings n) 512 (omega (arith, at)) (inl (omega arith))

  -- and so do the segments of the log before it
  pub part-earlier : (head k : ℕ) → n ≡ head + k → k < g.settings.segments → read_earlier g with_part head k ≡ read_earlier g file head k
  part-earlier head k is few =
      earlier-same g file with_part head k (λ m less.
      let apart = places-beside g.settings (head + m) n (remainders_differ (head + m) n g.settings.segments (omega (arith, is, less)) (omega (arith, is, few))) in
      let at = fits in
      part-beside file buf (place_of_segment g.settings (head + m)) (place_of_segment g.settings n) g.settings.seg_size (omega (arith, at)) (grind (arith, apart, part)))

  -- the part is read as before
  pub part-read : take (length buf) (segment_bytes g.settings with_part n) ≡ buf
  part-read = take-take (length buf) g.settings.seg_size (drop (place_of_segment g.settings n) with_part) part ∙ overlay-part file (place_of_segment g.settings n) buf fits

  pub whole-read : length buf ≡ g.settings.seg_size → segment_bytes g.settings with_part n ≡ buf
  whole-read all = ap (λ (k : ℕ). take k (drop (place_of_segment g.settings n) with_part)) (sym all) ∙ overlay-part file (place_of_segment g.settings n) buf fits

-- ---- all of them

-- bytes whose k segments from the head on were read, with a predicate on what was found in them; before the segments they are the same as the other
-- bytes
pub record AreReadUpto (Has : ReadResult → Type 0) (v : View) (g : Format) (head k : ℕ) (file now : List ℕ) : Type 0 where
  pub bytes : IsReadOf v now
  pub front : take segments_begin now ≡ take segments_begin file
  pub found : Has (read_earlier g now head k)

pub none-read : (Has : ReadResult → Type 0) (v : View) (g : Format) (head k : ℕ) (file : List ℕ) → k ≡ 0 → IsReadOf v file → Has (Ok []) → AreReadUpto Has v g head k file file
none-read Has v g head k file zero bytes h = record {
  bytes = bytes;
  front = refl;
  found = subst (λ (m : ℕ). Has (read_earlier g file head m)) (sym zero) h;
}

module _ (g : Format) (head : ℕ) (file now buf : List ℕ) (old new : View) (n : ℕ) (good : first_bad_field g.settings ≡ None) (size : disk_size g.settings ≤ old.size) where
  abbrev pub then_now : List ℕ
  then_now = overlay now (place_of_segment g.settings n) buf

  has_room : IsReadOf old now → HasSegments g.settings now
  has_room read = let long = read.whole in omega (arith, long, size)

  -- one segment more
  pub read-next : (Has More : ReadResult → Type 0) (k l : ℕ) → n ≡ head + k → l ≡ suc k → k < g.settings.segments → length buf ≡ g.settings.seg_size → AreReadUpto Has old g head k file now
      → IsReadOf new then_now → ((state : ReadResult) → Has state → More (followed_by state (read_segment g is_padding n buf))) → AreReadUpto More new g head l file then_now
  read-next Has More k l at count few all h bytes takes =
      let whole = has_room h.bytes in
      let part : length buf ≤ g.settings.seg_size = omega (arith, all) in
      let earlier : ReadResult = read_earlier g now head k in
      let state : followed_by earlier (read_segment g is_padding n buf) ≡ read_earlier g then_now head (suc k) =
      ap (λ (r : ReadResult). followed_by r (read_segment g is_padding n buf)) (sym (part-earlier g good now buf n whole part head k at few))
      ∙ ap (λ (bs : List ℕ). followed_by (read_earlier g then_now head k) (read_segment g is_padding n bs)) (sym (whole-read g good now buf n whole part all))
      ∙ ap (λ (m : ℕ). followed_by (read_earlier g then_now head k) (read_segment g is_padding m (segment_bytes g.settings then_now m))) at in
      record {
        bytes = bytes;
        front = part-front g good now buf n whole part ∙ h.front;
        found = subst (λ (m : ℕ). More (read_earlier g then_now head m)) (sym count) (subst (λ (r : ReadResult). More r) state (takes earlier h.found));
      }

-- the used part of the last one
pub read-last : (g : Format) (e : LogEnds) (file buf : List ℕ) (old : View) (n : ℕ) → first_bad_field g.settings ≡ None → disk_size g.settings ≤ old.size → AreEnds g.settings e → n ≡ last_segment g.settings e.tail
    → length buf ≡ bytes_in_use g.settings e.tail → IsReadOf old file → (let now : List ℕ = overlay file (place_of_segment g.settings n) buf in (take segments_begin now ≡ take segments_begin file)
    × (followed_by (read_earlier g file e.head (last_segment g.settings e.tail - e.head)) (read_segment g is_at_tail n buf) ≡ log_between g now e.head e.tail))
read-last g e file buf old n good size is last all read =
    let whole = has_room g e.head file file buf old old n good size read in
    let sized = (are_sized g.settings good).least_size in
    let following = is.after in
    let room = is.last in
    let split = split-tail g.settings e.head e.tail (omega (arith, sized)) (omega (arith, following)) in
    let from = split.from in
    let high = split.high in
    let k : ℕ = last_segment g.settings e.tail - e.head in
    let at : n ≡ e.head + k = omega (arith, last, from) in
    let part : length buf ≤ g.settings.seg_size = omega (arith, all, high) in
    let now : List ℕ = overlay file (place_of_segment g.settings n) buf in
    let bytes : take (bytes_in_use g.settings e.tail) (segment_bytes g.settings now n) ≡ buf = ap (λ (m : ℕ). take m (segment_bytes g.settings now n)) (sym all) ∙ part-read g good file buf n whole part in (
      part-front g good file buf n whole part,
      ap (λ (r : ReadResult). followed_by r (read_segment g is_at_tail n buf)) (sym (part-earlier g good file buf n whole part e.head k at (omega (arith, room, last, from))))
          ∙ ap (λ (bs : List ℕ). followed_by (read_earlier g now e.head k) (read_segment g is_at_tail n bs)) (sym bytes)
          ∙ ap (λ (m : ℕ). followed_by (read_earlier g now e.head k) (read_segment g is_at_tail m (take (bytes_in_use g.settings e.tail) (segment_bytes g.settings now m)))) at,
    )

-- ---- some at a time

pub scanned-more : (g : Format) (state : ReadResult) (gs : List HeldSegment) (x : HeldSegment) → scanned_after g state (gs ++ x ∷ []) ≡ followed_by (scanned_after g state gs) (scanned g x)
scanned-more g state [] x = refl
scanned-more g state (h ∷ gs) x = scanned-more g (followed_by state (scanned g h)) gs x

pub one-scanned : (g : Format) (state : ReadResult) (gs hs : List Segment) (x : Segment) → hs ≡ gs ++ x ∷ [] → gs ≡ [] → scanned_after g state (map held_segment hs) ≡ followed_by state (scanned g (held_segment x))
one-scanned g state gs hs x put none = ap (λ (xs : List Segment). scanned_after g state (map held_segment xs)) (put ∙ ap (λ (xs : List Segment). xs ++ x ∷ []) none)

-- these segments were read after k others, `upto` in all
abbrev pub AreReadAfter : View → Format → (head k upto : ℕ) → List Segment → List ℕ → List ℕ → Type 0
AreReadAfter v g head k upto gs file now = AreReadUpto (λ state. scanned_after g (read_earlier g file head k) (map held_segment gs) ≡ state) v g head upto file now

-- one more
pub following-next : (g : Format) (head k upto more n : ℕ) (gs hs : List Segment) (x : Segment) (file now buf : List ℕ) (old new : View) → first_bad_field g.settings ≡ None → disk_size g.settings ≤ old.size
    → held_segment x ≡ (record { number = n; end = Padding; bytes = buf }) → hs ≡ gs ++ x ∷ [] → n ≡ head + upto → more ≡ suc upto → upto < g.settings.segments → length buf ≡ g.settings.seg_size
    → AreReadAfter old g head k upto gs file now → IsReadOf new (overlay now (place_of_segment g.settings n) buf)
    → AreReadAfter new g head k more hs file (overlay now (place_of_segment g.settings n) buf)
following-next g head k upto more n gs hs x file now buf old new good size is put at count few all h bytes =
    let state : ReadResult = read_earlier g file head k in
    read-next g head file now buf old new n good size (λ r. scanned_after g state (map held_segment gs) ≡ r) (λ r. scanned_after g state (map held_segment hs) ≡ r) upto more at count few all h bytes
    (λ r e. ap (λ (xs : List HeldSegment). scanned_after g state xs) (ap (λ (xs : List Segment). map held_segment xs) put ∙ map-append held_segment gs (x ∷ []))
    ∙ scanned-more g state (map held_segment gs) (held_segment x) ∙ ap (λ (y : HeldSegment). followed_by (scanned_after g state (map held_segment gs)) (scanned g y)) is
    ∙ ap (λ (y : ReadResult). followed_by y (read_segment g is_padding n buf)) e)

-- all of them
pub following-all : (v : View) (g : Format) (head k upto all : ℕ) (gs : List Segment) (file now : List ℕ) → upto ≡ all → AreReadAfter v g head k upto gs file now
    → scanned_after g (read_earlier g file head k) (map held_segment gs) ≡ read_earlier g now head all
following-all v g head k upto all gs file now same h = h.found ∙ ap (λ (m : ℕ). read_earlier g now head m) same

-- and these were scanned too
pub round-more : (Has More : ReadResult → Type 0) (old new : View) (g : Format) (head k all : ℕ) (gs : List Segment) (file before now : List ℕ) → AreReadUpto Has old g head k file before
    → IsReadOf new now → take segments_begin now ≡ take segments_begin before → scanned_after g (read_earlier g before head k) (map held_segment gs) ≡ read_earlier g now head all
    → ((state : ReadResult) → Has state → More (scanned_after g state (map held_segment gs))) → AreReadUpto More new g head all file now
round-more Has More old new g head k all gs file before now upto bytes front state takes = record {
  bytes = bytes;
  front = front ∙ upto.front;
  found = subst More state (takes (read_earlier g before head k) upto.found);
}

-- the last segment was scanned, and so the whole log
pub last-taken : {X : Type 0} (r : Result X Fault) (Has : ReadResult → Type 0) (state whole : ReadResult) → state ≡ whole → OnOk r (Has state) → OnOk r (Has whole)
last-taken r Has state whole same h = subst (λ (t : ReadResult). OnOk r (Has t)) same h

-- ---- numbers

-- how many bytes of the last segment are in use, as the code computes it
pub in_use : (s : Settings) (tail last size : ℕ) → last ≡ last_segment s tail → size ≡ s.seg_size → tail - last * size ≡ bytes_in_use s tail
in_use s tail last size at all = ap (λ (n : ℕ). tail - last * n) all ∙ ap (λ (n : ℕ). tail - n * s.seg_size) at

-- the last segment in use is one of those from the head on, and begins before the tail
pub record IsLast (s : Settings) (e : LogEnds) : Type 0 where
  pub from : e.head ≤ last_segment s e.tail
  pub free : last_segment s e.tail < e.head + s.segments
  pub begins : last_segment s e.tail * s.seg_size ≤ e.tail
  pub used : bytes_in_use s e.tail ≤ s.seg_size

pub is_last : (s : Settings) (e : LogEnds) → first_bad_field s ≡ None → AreEnds s e → IsLast s e
is_last s e good is =
    let size = (are_sized s good).least_size in
    let following = is.after in
    let split = split-tail s e.head e.tail (omega (arith, size)) (omega (arith, following)) in
    let at = split.is in
    record { from = split.from; free = is.last; begins = omega (arith, at); used = split.high }

-- the remaining part of a buffer, after one more segment is read
pub one-left : (rest left n first size all : ℕ) → first ≤ n → rest + size ≡ left → left + (n - first) * size ≡ all → rest + (n + 1 - first) * size ≡ all
one-left rest left n first size all from is h = let one : n + 1 - first ≡ (n - first) + 1 = omega (arith, from) in rw one (omega (arith, is, h))
