-- Frames that are written from the tail on are read back, after the older ones.
use Rattle.std.specs.Prelude.{◌≡◌, ℕ, zero, suc, ◌+◌, ◌-◌, ◌*◌, ◌%◌, ◌/◌, ◌≤◌, ◌<◌, true, List, [], ◌∷◌, ◌++◌, length, map, take, drop, replicate, None, Result, Ok, Err}
use Rattle.std.specs.List.{AllByRecursion}
use Rattle.std.proofs.Common.{refl, sym, ap, ◌∙◌, arith, subst, append_assoc, append-nil, length-append}
use Rattle.std.proofs.lemmas.List.{take_all, length-take}
use Rattle.keys.specs.Limits.{first_bad_field}
use Rattle.keys.specs.declared.settings.Settings.{Settings}
use Rattle.keys.specs.declared.fault.Fault.{Fault}
use Rattle.frame_codec.specs.declared.format.Format.{Format}
use Rattle.frame_codec.specs.Frame.{Frame, bytes_of, is_frame}
use Rattle.flush_log.specs.Overlay.{overlay}
use Rattle.flush_log.specs.Reading.{Found, all_in, is_at_tail, is_padding, read_segment, followed_by, read_earlier, read_log, log_between}
use Rattle.flush_log.specs.Segments.{place_of_segment, HasSegments, segment_bytes, last_segment, bytes_in_use}
use Rattle.flush_log.specs.Layout.{PlacedFrame, Span, placed_from, placed, past_header, tail_after, found_in_text, end_of, longer, filled, begun, opened, spans_from, spans, place_of_span, with_spans}
use Rattle.flush_log.proofs.FitLemmas.{are_sized, frame_fits}
use Rattle.flush_log.proofs.SegmentLemmas.{Holds, header-holds, frame-holds, holds-read, read-holds, tail-ends, padding-ends, zeros-pad}
use Rattle.flush_log.proofs.PlaceLemmas.{remainders_differ, whole-written, segment-written, segment-beside}
use Rattle.flush_log.proofs.LayoutLemmas.{end_point, found_at, by_places, AllFit, split-tail, Start, starts, opened-segment, opened-end, opened-inside, text-last, goes_on_span, next_span, filled-end}
use Rattle.flush_log.proofs.LayoutLemmas.Start.{Inside, Following}

-- ---- files with some parts the same

pub segment-short : (s : Settings) (file : List ℕ) (n : ℕ) → length (segment_bytes s file n) ≤ s.seg_size
segment-short s file n = let e = length-take s.seg_size (drop (place_of_segment s n) file) in grind (arith, e)

module _ (g : Format) where
  pub earlier-same : (file other : List ℕ) (head k : ℕ) → ((m : ℕ) → m < k → segment_bytes g.settings other (head + m) ≡ segment_bytes g.settings file (head + m)) → read_earlier g other head k ≡ read_earlier g file head k
  earlier-same file other head zero same = refl
  earlier-same file other head (suc k) same =
      ap (λ (r : Result (List Found) Fault). followed_by r (read_segment g is_padding (head + k) (segment_bytes g.settings other (head + k)))) (earlier-same file other head k (λ m h. same m (omega arith)))
      ∙ ap (λ (bs : List ℕ). followed_by (read_earlier g file head k) (read_segment g is_padding (head + k) bs)) (same k (omega arith))

  pub log-same : (file other : List ℕ) (head k used : ℕ) → ((m : ℕ) → m < k → segment_bytes g.settings other (head + m) ≡ segment_bytes g.settings file (head + m))
      → take used (segment_bytes g.settings other (head + k)) ≡ take used (segment_bytes g.settings file (head + k)) → read_log g other head k used ≡ read_log g file head k used
  log-same file other head k used same last =
      ap (λ (r : Result (List Found) Fault). followed_by r (read_segment g is_at_tail (head + k) (take used (segment_bytes g.settings other (head + k))))) (earlier-same file other head k same)
      ∙ ap (λ (bs : List ℕ). followed_by (read_earlier g file head k) (read_segment g is_at_tail (head + k) bs)) last

abbrev pub ok : List Found → Result (List Found) Fault
ok found = Ok found

pub followed_by-ok : (x y : Result (List Found) Fault) (found : List Found) → followed_by x y ≡ ok found → (before more : List Found) × (x ≡ ok before) × (y ≡ ok more) × (found ≡ before ++ more)
followed_by-ok (Ok before) (Ok more) found h = (before, more, refl, refl, cc)
followed_by-ok (Ok before) (Err fault) found h = absurd (cc)
followed_by-ok (Err fault) y found h = absurd (cc)

module _ (g : Format) (good : first_bad_field g.settings ≡ None) where
  -- a disk whose log reads as this after a span, in the segment k after the head, is written too
  pub record Stands (file : List ℕ) (head k : ℕ) (r : Span) (found : List Found) : Type 0 where
    pub before : List Found
    pub here : List Frame
    pub old : read_earlier g file head k ≡ Ok before
    pub now : Holds g r.segment (take r.offset (segment_bytes g.settings file r.segment) ++ r.bytes) here
    pub all : found ≡ before ++ all_in r.segment here
    pub number : r.segment ≡ head + k
    pub fits : end_of r ≤ g.settings.seg_size
    pub whole : HasSegments g.settings file
    pub free : k < g.settings.segments

  -- the file with the span
  abbrev written : List ℕ → Span → List ℕ
  written file r = overlay file (place_of_span g.settings r) r.bytes

  earlier-stay : (file : List ℕ) (head k : ℕ) (r : Span) → r.segment ≡ head + k → end_of r ≤ g.settings.seg_size → HasSegments g.settings file → k < g.settings.segments → read_earlier g (written file r) head k ≡ read_earlier g file head k
  earlier-stay file head k r n l w free =
      earlier-same g file (written file r) head k (λ m h. segment-beside g.settings file r (head + m) w (omega arith) l (remainders_differ (head + m) r.segment g.settings.segments (omega arith) (omega arith)))

  -- the span is the last one
  stands-read : (file : List ℕ) (head k : ℕ) (r : Span) (found : List Found) → Stands file head k r found → read_log g (written file r) head k (end_of r) ≡ ok found
  stands-read file head k r found h =
      let new : List ℕ = written file r in
      let free = h.free in
      let bytes : take (end_of r) (segment_bytes g.settings new (head + k)) ≡ (take r.offset (segment_bytes g.settings file r.segment) ++ r.bytes) ++ [] =
      ap (λ (n : ℕ). take (end_of r) (segment_bytes g.settings new n)) (sym h.number)
      ∙ segment-written g.settings file r h.whole (omega (arith, free)) h.fits
      ∙ sym (append-nil (take r.offset (segment_bytes g.settings file r.segment) ++ r.bytes)) in
      ap (λ (x : Result (List Found) Fault). followed_by x (read_segment g is_at_tail (head + k) (take (end_of r) (segment_bytes g.settings new (head + k))))) (earlier-stay file head k r h.number h.fits h.whole h.free ∙ h.old)
      ∙ ap (λ (bs : List ℕ). followed_by (ok h.before) (read_segment g is_at_tail (head + k) bs)) bytes
      ∙ ap (λ (n : ℕ). followed_by (ok h.before) (read_segment g is_at_tail n ((take r.offset (segment_bytes g.settings file r.segment) ++ r.bytes) ++ []))) (sym h.number)
      ∙ ap (λ (x : Result (List Found) Fault). followed_by (ok h.before) x) (holds-read g is_at_tail tail-ends r.segment (take r.offset (segment_bytes g.settings file r.segment) ++ r.bytes) [] h.here h.now refl)
      ∙ ap ok (sym h.all)

  map_push : (n : ℕ) (fs : List Frame) (f : Frame) → all_in n (fs ++ f ∷ []) ≡ all_in n fs ++ record { segment = n; frame = f } ∷ []
  map_push n [] f = refl
  map_push n (g ∷ fs) f = ap (λ (xs : List Found). record { segment = n; frame = g } ∷ xs) (map_push n fs f)

  -- a frame more in the same segment
  stands-longer : (file : List ℕ) (head k : ℕ) (r : Span) (found : List Found) (f : Frame) → end_of r + length (bytes_of f) ≤ g.settings.seg_size → is_frame g f ≡ true
      → Stands file head k r found → Stands file head k (longer r (bytes_of f)) (found ++ record { segment = r.segment; frame = f } ∷ [])
  stands-longer file head k r found f room within h = record {
    before = h.before;
    here = h.here ++ f ∷ [];
    old = h.old;
    now = rw (sym (append_assoc (take r.offset (segment_bytes g.settings file r.segment)) r.bytes (bytes_of f))) (frame-holds g good r.segment (take r.offset (segment_bytes g.settings file r.segment) ++ r.bytes) h.here f within h.now);
    all = ap (λ (xs : List Found). xs ++ record { segment = r.segment; frame = f } ∷ []) h.all
        ∙ append_assoc h.before (all_in r.segment h.here) (record { segment = r.segment; frame = f } ∷ [])
        ∙ ap (λ (xs : List Found). h.before ++ xs) (sym (map_push r.segment h.here f));
    number = h.number;
    fits = let long = length-append r.bytes (bytes_of f) in omega arith;
    whole = h.whole;
    free = h.free;
  }

  -- a segment that is begun after one that is filled
  stands-filled : (file : List ℕ) (head k : ℕ) (r : Span) (found : List Found) → suc k < g.settings.segments → Stands file head k r found → Stands (written file (filled g.settings r)) head (suc k) (begun (suc r.segment) []) found
  stands-filled file head k r found free h =
      let full : Span = filled g.settings r in
      let new : List ℕ = written file full in
      let zeros : List ℕ = replicate (g.settings.seg_size - end_of r) 0 in
      let start : List ℕ = take r.offset (segment_bytes g.settings file r.segment) in
      let sized = are_sized g.settings good in
      let least = sized.least_size in
      let some : 0 < g.settings.segments = omega arith in
      let room = filled-end g.settings r h.fits in
      let fit : end_of full ≤ g.settings.seg_size = omega (arith, room) in
      let short : length (segment_bytes g.settings new r.segment) ≤ end_of full = (let e : length (segment_bytes g.settings new r.segment) ≤ g.settings.seg_size = segment-short g.settings new r.segment in omega (arith, e, room)) in
      let bytes : segment_bytes g.settings new (head + k) ≡ (start ++ r.bytes) ++ zeros =
      ap (λ (n : ℕ). segment_bytes g.settings new n) (sym h.number)
      ∙ sym (take_all (end_of full) (segment_bytes g.settings new r.segment) short)
      ∙ segment-written g.settings file full h.whole some fit
      ∙ sym (append_assoc start r.bytes zeros) in
      record {
        before = found;
        here = [];
        old = ap (λ (x : Result (List Found) Fault). followed_by x (read_segment g is_padding (head + k) (segment_bytes g.settings new (head + k)))) (earlier-stay file head k full h.number fit h.whole h.free ∙ h.old)
            ∙ ap (λ (bs : List ℕ). followed_by (ok h.before) (read_segment g is_padding (head + k) bs)) bytes
            ∙ ap (λ (n : ℕ). followed_by (ok h.before) (read_segment g is_padding n ((start ++ r.bytes) ++ zeros))) (sym h.number)
            ∙ ap (λ (x : Result (List Found) Fault). followed_by (ok h.before) x) (holds-read g is_padding padding-ends r.segment (start ++ r.bytes) zeros h.here h.now (zeros-pad (g.settings.seg_size - end_of r)))
            ∙ ap ok (sym h.all);
        now = header-holds g (suc r.segment);
        all = sym (append-nil found);
        number = let n = h.number in omega arith;
        fits = omega (arith, least);
        whole = whole-written g.settings file full h.whole some fit;
        free = free;
      }

  -- ---- new frames after it

  -- with the spans of these frames written, the log up to their end reads as they do, after what was found
  abbrev pub Leaves : List ℕ → ℕ → List Found → ℕ → ℕ → Span → List PlacedFrame → Type 0
  Leaves file head found n offset r ps = (j : ℕ) → (end_point n offset ps).0 ≡ head + j → j < g.settings.segments →
      read_log g (with_spans g.settings file (spans_from g.settings r ps)) head j (end_point n offset ps).1 ≡ ok (found ++ map found_at ps)

  abbrev AreRead : ℕ → ℕ → List Frame → List PlacedFrame → Type 0
  AreRead n offset fs ps = (n ≤ (end_point n offset ps).0) × ((file : List ℕ) (head k : ℕ) (r : Span) (found : List Found) → r.segment ≡ n → end_of r ≡ offset →
      Stands file head k r found → AllByRecursion (λ f. is_frame g f ≡ true) fs → Leaves file head found n offset r ps)

  read-none : (n offset : ℕ) → AreRead n offset [] []
  read-none n offset = (
    omega arith,
    λ file head k r found number end h within j is free.
        let same : j ≡ k = (let m = h.number in omega (arith, number, is, m)) in
        ap (λ (i : ℕ). read_log g (written file r) head i offset) same
        ∙ ap (λ (i : ℕ). read_log g (written file r) head k i) (sym end)
        ∙ stands-read file head k r found h
        ∙ ap ok (sym (append-nil found)),
  )

  read-fits : (n offset : ℕ) (f : Frame) (fs : List Frame) (ps : List PlacedFrame) → offset + length (bytes_of f) ≤ g.settings.seg_size → AreRead n (offset + length (bytes_of f)) fs ps
      → AreRead n offset (f ∷ fs) (record { segment = n; offset = offset; frame = f } ∷ ps)
  read-fits n offset f fs ps room later = (
    later.0,
    λ file head k r found number end h within j is free.
        let p : PlacedFrame = record { segment = n; offset = offset; frame = f } in
        let long = length-append r.bytes (bytes_of f) in
        let here : Stands file head k (longer r (bytes_of f)) (found ++ record { segment = n; frame = f } ∷ []) =
        rw (sym number) (stands-longer file head k r found f (omega (arith, end, room)) within.0 h) in
        let read = later.1 file head k (longer r (bytes_of f)) (found ++ record { segment = n; frame = f } ∷ []) number (omega (arith, long, end)) here within.1 j is free in
        ap (λ (rs : List Span). read_log g (with_spans g.settings file rs) head j (end_point n (offset + length (bytes_of f)) ps).1) (goes_on_span g.settings r p ps number)
        ∙ read
        ∙ ap ok (append_assoc found (record { segment = n; frame = f } ∷ []) (map found_at ps)),
  )

  read-over : (n offset : ℕ) (f : Frame) (fs : List Frame) (ps : List PlacedFrame) → AreRead (suc n) (16 + length (bytes_of f)) fs ps
      → AreRead n offset (f ∷ fs) (record { segment = suc n; offset = 16; frame = f } ∷ ps)
  read-over n offset f fs ps later = (
    let rise = later.0 in omega arith,
    λ file head k r found number end h within j is free.
        let p : PlacedFrame = record { segment = suc n; offset = 16; frame = f } in
        let up = later.0 in
        let at = h.number in
        let fit = frame_fits g f good within.0 in
        let new : List ℕ = written file (filled g.settings r) in
        let next : Stands new head (suc k) (begun (suc r.segment) []) found = stands-filled file head k r found (omega (arith, up, at, number, is, free)) h in
        let here : Stands new head (suc k) (begun (suc r.segment) (bytes_of f)) (found ++ record { segment = suc r.segment; frame = f } ∷ []) =
        stands-longer new head (suc k) (begun (suc r.segment) []) found f fit within.0 next in
        let same : suc r.segment ≡ suc n = ap suc number in
        let read = later.1 new head (suc k) (begun (suc n) (bytes_of f)) (found ++ record { segment = suc n; frame = f } ∷ []) refl (omega arith) (rw (sym same) here) within.1 j is free in
        ap (λ (rs : List Span). read_log g (with_spans g.settings file rs) head j (end_point (suc n) (16 + length (bytes_of f)) ps).1) (next_span g.settings r p ps (sym same))
        ∙ read
        ∙ ap ok (append_assoc found (record { segment = suc n; frame = f } ∷ []) (map found_at ps)),
  )

  pub text-read : (n offset : ℕ) (fs : List Frame) → AreRead n offset fs (placed_from g.settings n offset fs)
  text-read = by_places g.settings AreRead read-none read-fits read-over

  -- ---- from the tail on

  starts-inside : (file : List ℕ) (head k used : ℕ) (found : List Found) → read_log g file head k used ≡ ok found → used ≤ g.settings.seg_size → HasSegments g.settings file → k < g.settings.segments
      → Stands file head k (record { segment = head + k; offset = used; bytes = [] }) found
  starts-inside file head k used found h room whole free =
      let bytes : List ℕ = take used (segment_bytes g.settings file (head + k)) in
      let (before, more, old, read, all) = followed_by-ok (read_earlier g file head k) (read_segment g is_at_tail (head + k) bytes) found h in
      let (here, holds, same) = read-holds g (head + k) bytes more read in
      record {
        before = before;
        here = here;
        old = old;
        now = rw (append-nil bytes) holds;
        all = all ∙ ap (λ (xs : List Found). before ++ xs) same;
        number = refl;
        fits = omega arith;
        whole = whole;
        free = free;
      }

  starts-following : (file : List ℕ) (head k : ℕ) (found : List Found) → read_log g file head k g.settings.seg_size ≡ ok found → HasSegments g.settings file → suc k < g.settings.segments
      → Stands file head (suc k) (begun (suc (head + k)) []) found
  starts-following file head k found h whole free =
      let bytes : List ℕ = segment_bytes g.settings file (head + k) in
      let (before, more, old, read, all) = followed_by-ok (read_earlier g file head k) (read_segment g is_at_tail (head + k) (take g.settings.seg_size bytes)) found h in
      let (here, holds, same) = read-holds g (head + k) (take g.settings.seg_size bytes) more read in
      let is : bytes ≡ take g.settings.seg_size bytes ++ [] = sym (take_all g.settings.seg_size bytes (segment-short g.settings file (head + k))) ∙ sym (append-nil (take g.settings.seg_size bytes)) in
      let least = (are_sized g.settings good).least_size in
      record {
        before = found;
        here = [];
        old = ap (λ (x : Result (List Found) Fault). followed_by x (read_segment g is_padding (head + k) bytes)) old
            ∙ ap (λ (bs : List ℕ). followed_by (ok before) (read_segment g is_padding (head + k) bs)) is
            ∙ ap (λ (x : Result (List Found) Fault). followed_by (ok before) x) (holds-read g is_padding padding-ends (head + k) (take g.settings.seg_size bytes) [] here holds refl)
            ∙ ap (λ (xs : List Found). ok (before ++ xs)) (sym same)
            ∙ ap ok (sym all);
        now = header-holds g (suc (head + k));
        all = sym (append-nil found);
        number = omega arith;
        fits = omega (arith, least);
        whole = whole;
        free = free;
      }

  text-following : (file : List ℕ) (head q used n at : ℕ) (found : List Found) (fs : List Frame) → Start g.settings q used n at → head ≤ q → 1 ≤ used → used ≤ g.settings.seg_size
      → HasSegments g.settings file → read_log g file head (q - head) used ≡ ok found → AllByRecursion (λ f. is_frame g f ≡ true) fs
      → (let ps : List PlacedFrame = placed_from g.settings n (past_header at) fs in (end_point n (past_header at) ps).0 < head + g.settings.segments
      → read_log g (with_spans g.settings file (spans_from g.settings (opened n at) ps)) head ((end_point n (past_header at) ps).0 - head) (end_point n (past_header at) ps).1 ≡ ok (found ++ map found_at ps))
  text-following file head q used n at found fs (Inside room) from low high whole h within free =
      let k : ℕ = q - head in
      let (rise, read) = text-read q (past_header used) fs in
      let is : q ≡ head + (q - head) = omega arith in
      let stands : Stands file head k (record { segment = head + k; offset = used; bytes = [] }) found = starts-inside file head k used found h high whole (omega (arith, rise, free, is)) in
      let first : Stands file head k (opened q used) found = rw (opened-inside q used low) (subst (λ (m : ℕ). Stands file head k (record { segment = m; offset = used; bytes = [] }) found) (sym is) stands) in
      read file head k (opened q used) found (opened-segment q used) (opened-end q used) first within
      ((end_point q (past_header used) (placed_from g.settings q (past_header used) fs)).0 - head) (omega (arith, rise, from)) (omega (arith, rise, free, from))
  text-following file head q used n at found fs (Following full) from low high whole h within free =
      let k : ℕ = q - head in
      let (rise, read) = text-read (suc q) 16 fs in
      let is : q ≡ head + (q - head) = omega arith in
      let filled_up : read_log g file head k g.settings.seg_size ≡ ok found = ap (λ (x : ℕ). read_log g file head k x) (sym full) ∙ h in
      let stands : Stands file head (suc k) (begun (suc (head + k)) []) found = starts-following file head k found filled_up whole (omega (arith, rise, free, is)) in
      let first : Stands file head (suc k) (begun (suc q) []) found = subst (λ (m : ℕ). Stands file head (suc k) (begun (suc m) []) found) (sym is) stands in
      read file head (suc k) (begun (suc q) []) found refl (opened-end q 0) first within
      ((end_point (suc q) 16 (placed_from g.settings (suc q) 16 fs)).0 - head) (omega (arith, rise, from)) (omega (arith, rise, free, from))

  pub all_fit : (fs : List Frame) → AllByRecursion (λ f. is_frame g f ≡ true) fs → AllFit g.settings fs
  all_fit [] within = tt
  all_fit (f ∷ fs) within = (frame_fits g f good within.0, all_fit fs within.1)

  pub text-back : (file : List ℕ) (head tail : ℕ) (found : List Found) (text : List Frame) → HasSegments g.settings file → AllByRecursion (λ f. is_frame g f ≡ true) text → head * g.settings.seg_size < tail
      → log_between g file head tail ≡ ok found → last_segment g.settings (tail_after g.settings tail text) < head + g.settings.segments
      → log_between g (with_spans g.settings file (spans g.settings tail text)) head (tail_after g.settings tail text) ≡ ok (found ++ found_in_text g.settings tail text)
  text-back file head tail found [] whole within h read free = read ∙ ap ok (sym (append-nil found))
  text-back file head tail found (f ∷ fs) whole within h read free =
      let n : ℕ = tail / g.settings.seg_size in
      let at : ℕ = tail % g.settings.seg_size in
      let text : List Frame = f ∷ fs in
      let new : List ℕ = with_spans g.settings file (spans g.settings tail (f ∷ fs)) in
      let after : ℕ = tail_after g.settings tail (f ∷ fs) in
      let e : ℕ × ℕ = end_point n (past_header at) (placed g.settings tail (f ∷ fs)) in
      let least = (are_sized g.settings good).least_size in
      let split = split-tail g.settings head tail (omega arith) h in
      let (last, used) = text-last g.settings tail (f ∷ fs) (omega arith) (omega arith) (all_fit (f ∷ fs) within) in
      ap (λ (m : ℕ). read_log g new head (m - head) (bytes_in_use g.settings after)) last
      ∙ ap (λ (u : ℕ). read_log g new head (e.0 - head) u) used
      ∙ text-following file head (last_segment g.settings tail) (bytes_in_use g.settings tail) n at found (f ∷ fs) (starts g.settings (last_segment g.settings tail) (bytes_in_use g.settings tail) tail split.is split.high (omega arith)) split.from split.low split.high whole read within (omega (arith, last, free))
