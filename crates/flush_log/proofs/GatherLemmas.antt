-- How bytes are collected for a segment, and the resulting spans.
use Rattle.std.proofs.Common.{◌≡◌, ℕ, zero, suc, ◌+◌, ◌-◌, ◌*◌, ◌/◌, ◌%◌, ◌<◌, ◌≤◌, Bool, true, false, nat_le, if◌then◌else◌, List, [], ◌∷◌, ◌++◌, length, length-append, map, replicate, refl, sym, ap, ◌∙◌, arith, le-leb, add-one}
use Rattle.std.proofs.lemmas.Bool.{lt-leb}
use Rattle.std.proofs.Math.Nat.{mul-le-mul_left}
use Rattle.keys.specs.Bytes.{Bytes}
use Rattle.frame_codec.specs.Frame.{Frame, bytes_of}
use Rattle.keys.specs.declared.settings.Settings.{Settings}
use Rattle.flush_log.specs.declared.write.Part.{Part}
use Rattle.flush_log.specs.Gathering.{left_by, open_after, span_of, IsInside}
use Rattle.flush_log.specs.Images.{FitSegments, Reached, from_tail, reached, after_frames}
use Rattle.flush_log.specs.Segments.{segment_header}
use Rattle.flush_log.specs.Layout.{Span, end_of, longer, filled, begun, opened, placed_from, spans_from, spans, tail_after}
use Rattle.flush_log.proofs.LayoutLemmas.{opened-segment, opened-end, goes_on_span, next_span}
use Rattle.flush_log.proofs.ReachLemmas.{frames-are, start-is, text_tail}

-- ---- what is gathered, and the spans that are left

module _ (s : Settings) where
  abbrev Fits : Span → Bytes → Bool
  Fits r bytes = nat_le (end_of r + length bytes) s.seg_size

  pub left-append : (r : Span) (us vs : List Bytes) → left_by s r (us ++ vs) ≡ left_by s r us ++ left_by s (open_after s r us) vs
  left-append r [] vs = refl
  left-append r (u ∷ us) vs = of (Fits r u) (left-append (longer r u) us vs) (left-append (begun (suc r.segment) u) us vs)
    where
      of : (b : Bool) → left_by s (longer r u) (us ++ vs) ≡ left_by s (longer r u) us ++ left_by s (open_after s (longer r u) us) vs
          → left_by s (begun (suc r.segment) u) (us ++ vs) ≡ left_by s (begun (suc r.segment) u) us ++ left_by s (open_after s (begun (suc r.segment) u) us) vs
          → (if b then left_by s (longer r u) (us ++ vs) else (filled s r ∷ left_by s (begun (suc r.segment) u) (us ++ vs)))
          ≡ (if b then left_by s (longer r u) us else (filled s r ∷ left_by s (begun (suc r.segment) u) us)) ++ left_by s (if b then open_after s (longer r u) us else open_after s (begun (suc r.segment) u) us) vs
      of true here there = here
      of false here there = ap (λ (rs : List Span). filled s r ∷ rs) there

  pub open-append : (r : Span) (us vs : List Bytes) → open_after s r (us ++ vs) ≡ open_after s (open_after s r us) vs
  open-append r [] vs = refl
  open-append r (u ∷ us) vs = of (Fits r u) (open-append (longer r u) us vs) (open-append (begun (suc r.segment) u) us vs)
    where
      of : (b : Bool) → open_after s (longer r u) (us ++ vs) ≡ open_after s (open_after s (longer r u) us) vs
          → open_after s (begun (suc r.segment) u) (us ++ vs) ≡ open_after s (open_after s (begun (suc r.segment) u) us) vs
          → (if b then open_after s (longer r u) (us ++ vs) else open_after s (begun (suc r.segment) u) (us ++ vs)) ≡ open_after s (if b then open_after s (longer r u) us else open_after s (begun (suc r.segment) u) us) vs
      of true here there = here
      of false here there = there

  -- one frame that fits, or doesn't
  pub left-here : (r : Span) (bytes : Bytes) → end_of r + length bytes ≤ s.seg_size → left_by s r (bytes ∷ []) ≡ []
  left-here r bytes h = ap (λ (b : Bool). let none : List Span = [] in if b then none else (filled s r ∷ [])) (le-leb (end_of r + length bytes) s.seg_size h)

  pub open-here : (r : Span) (bytes : Bytes) → end_of r + length bytes ≤ s.seg_size → open_after s r (bytes ∷ []) ≡ longer r bytes
  open-here r bytes h = ap (λ (b : Bool). if b then longer r bytes else begun (suc r.segment) bytes) (le-leb (end_of r + length bytes) s.seg_size h)

  pub left-there : (r : Span) (bytes : Bytes) → s.seg_size < end_of r + length bytes → left_by s r (bytes ∷ []) ≡ filled s r ∷ []
  left-there r bytes h = ap (λ (b : Bool). let none : List Span = [] in if b then none else (filled s r ∷ [])) (lt-leb (end_of r + length bytes) s.seg_size h)

  pub open-there : (r : Span) (bytes : Bytes) → s.seg_size < end_of r + length bytes → open_after s r (bytes ∷ []) ≡ begun (suc r.segment) bytes
  open-there r bytes h = ap (λ (b : Bool). if b then longer r bytes else begun (suc r.segment) bytes) (lt-leb (end_of r + length bytes) s.seg_size h)

  -- the segments rise
  pub open-rises : (r : Span) (frames : List Bytes) → r.segment ≤ (open_after s r frames).segment
  open-rises r [] = omega arith
  open-rises r (bytes ∷ frames) = of (Fits r bytes) (open-rises (longer r bytes) frames) (open-rises (begun (suc r.segment) bytes) frames)
    where
      of : (b : Bool) → r.segment ≤ (open_after s (longer r bytes) frames).segment → suc r.segment ≤ (open_after s (begun (suc r.segment) bytes) frames).segment
          → r.segment ≤ (if b then open_after s (longer r bytes) frames else open_after s (begun (suc r.segment) bytes) frames).segment
      of true here there = here
      of false here there = omega arith

  -- ---- spans of a buffer

  -- a frame that fits in
  pub open-part : (p : Part) (bytes next frame : Bytes) → p.from + length bytes + length frame ≤ s.seg_size → next ≡ bytes ++ frame → span_of p next ≡ open_after s (span_of p bytes) (frame ∷ [])
  open-part p bytes next frame fits h = ap (span_of p) h ∙ sym (open-here (span_of p bytes) frame fits)

  -- what a frame leaves that doesn't fit in: a segment with zeros to its end
  pub left-whole : (p : Part) (bytes padded frame : Bytes) (held : ℕ) → held ≡ length bytes → s.seg_size < p.from + held + length frame → padded ≡ bytes ++ replicate (s.seg_size - p.from - held) 0
      → left_by s (span_of p bytes) (frame ∷ []) ≡ span_of p padded ∷ []
  left-whole p bytes padded frame held long over h =
      let rest : s.seg_size - (p.from + length bytes) ≡ s.seg_size - p.from - held = omega (arith, long) in
      left-there (span_of p bytes) frame (omega (arith, long, over))
      ∙ ap (λ (n : ℕ). span_of p (bytes ++ replicate n 0) ∷ []) rest
      ∙ ap (λ (bs : Bytes). span_of p bs ∷ []) (sym h)

  -- and it begins the next one
  pub next-begun : (next : Part) (n : ℕ) (headed all frame : Bytes) → span_of next headed ≡ begun n [] → all ≡ headed ++ frame → span_of next all ≡ begun n frame
  next-begun next n headed all frame first h = ap (span_of next) h ∙ ap (λ (r : Span). longer r frame) first

  pub open-whole : (p next : Part) (bytes all frame : Bytes) → s.seg_size < p.from + length bytes + length frame → span_of next all ≡ begun (p.segment + 1) frame
      → span_of next all ≡ open_after s (span_of p bytes) (frame ∷ [])
  open-whole p next bytes all frame over first =
      first
      ∙ ap (λ (n : ℕ). begun n frame) (add-one p.segment)
      ∙ sym (open-there (span_of p bytes) frame over)

  begun-end : (n : ℕ) (bytes : Bytes) → end_of (begun n bytes) ≡ 16 + length bytes
  begun-end n bytes = omega arith

  pub begun-inside : (r : Span) (n : ℕ) (frame : Bytes) → r ≡ begun n frame → 16 + length frame ≤ s.seg_size → IsInside s r
  begun-inside r n frame is fits =
      let end = ap (λ (x : Span). end_of x) is in
      let size = begun-end n frame in
      omega (arith, end, size, fits)

  -- ---- all collected bytes of a commit

  longer-end : (r : Span) (bytes : Bytes) → end_of (longer r bytes) ≡ end_of r + length bytes
  longer-end r bytes = let long = length-append r.bytes bytes in omega (arith, long)

  abbrev gathered : Span → List Bytes → List Span
  gathered r frames = left_by s r frames ++ open_after s r frames ∷ []

  pub gathered-spans : (r : Span) (fs : List Frame) → spans_from s r (placed_from s r.segment (end_of r) fs) ≡ gathered r (map (λ f. bytes_of f) fs)
  gathered-spans r [] = refl
  gathered-spans r (f ∷ fs) = of (Fits r (bytes_of f)) (gathered-spans (longer r (bytes_of f)) fs) (gathered-spans (begun (suc r.segment) (bytes_of f)) fs)
    where
      of : (b : Bool) → spans_from s (longer r (bytes_of f)) (placed_from s r.segment (end_of (longer r (bytes_of f))) fs) ≡ gathered (longer r (bytes_of f)) (map (λ g. bytes_of g) fs)
          → spans_from s (begun (suc r.segment) (bytes_of f)) (placed_from s (suc r.segment) (end_of (begun (suc r.segment) (bytes_of f))) fs) ≡ gathered (begun (suc r.segment) (bytes_of f)) (map (λ g. bytes_of g) fs)
          → spans_from s r (if b then (record { segment = r.segment; offset = end_of r; frame = f } ∷ placed_from s r.segment (end_of r + length (bytes_of f)) fs)
          else (record { segment = suc r.segment; offset = 16; frame = f } ∷ placed_from s (suc r.segment) (16 + length (bytes_of f)) fs))
          ≡ (if b then left_by s (longer r (bytes_of f)) (map (λ g. bytes_of g) fs) else (filled s r ∷ left_by s (begun (suc r.segment) (bytes_of f)) (map (λ g. bytes_of g) fs)))
          ++ (if b then open_after s (longer r (bytes_of f)) (map (λ g. bytes_of g) fs) else open_after s (begun (suc r.segment) (bytes_of f)) (map (λ g. bytes_of g) fs)) ∷ []
      of true here there =
          goes_on_span s r (record { segment = r.segment; offset = end_of r; frame = f }) (placed_from s r.segment (end_of r + length (bytes_of f)) fs) refl
          ∙ ap (λ (n : ℕ). spans_from s (longer r (bytes_of f)) (placed_from s r.segment n fs)) (sym (longer-end r (bytes_of f)))
          ∙ here
      of false here there =
          next_span s r (record { segment = suc r.segment; offset = 16; frame = f }) (placed_from s (suc r.segment) (16 + length (bytes_of f)) fs) refl
          ∙ ap (λ (m : ℕ). filled s r ∷ spans_from s (begun (suc r.segment) (bytes_of f)) (placed_from s (suc r.segment) m fs)) (sym (begun-end (suc r.segment) (bytes_of f)))
          ∙ ap (λ (rs : List Span). filled s r ∷ rs) there

  -- the spans of a commit
  pub text-spans : (tail : ℕ) (frames : List Bytes) (text : List Frame) → frames ≡ map (λ f. bytes_of f) text → 1 ≤ length text
      → left_by s (opened (tail / s.seg_size) (tail % s.seg_size)) frames ++ open_after s (opened (tail / s.seg_size) (tail % s.seg_size)) frames ∷ [] ≡ spans s tail text
  text-spans tail frames [] h some = absurd (omega arith)
  text-spans tail frames (f ∷ fs) h some =
      let n : ℕ = tail / s.seg_size in
      let at : ℕ = tail % s.seg_size in
      let r : Span = opened n at in
      ap (gathered r) h
      ∙ sym (gathered-spans r (f ∷ fs))
      ∙ ap (λ (m : ℕ). spans_from s r (placed_from s m (end_of r) (f ∷ fs))) (opened-segment n at)
      ∙ ap (λ (m : ℕ). spans_from s r (placed_from s n m (f ∷ fs))) (opened-end n at)

  -- the segment of what is gathered is the one that the log's end reaches
  pub open-reached : (q : Reached) (r : Span) (frames : List Bytes) → q.segment ≡ r.segment → q.offset ≡ end_of r → (open_after s r frames).segment ≡ (after_frames s q frames).segment
  open-reached q r [] same at = sym same
  open-reached q r (bytes ∷ frames) same at =
      of (Fits r bytes)
      (open-reached (reached s q.segment (q.offset + length bytes)) (longer r bytes) frames same (ap (λ (n : ℕ). n + length bytes) at ∙ sym (longer-end r bytes)))
      (open-reached (reached s (suc q.segment) (16 + length bytes)) (begun (suc r.segment) bytes) frames (ap suc same) (sym (begun-end (suc r.segment) bytes)))
      ∙ ap (λ (n : ℕ). (after_frames s (if nat_le (n + length bytes) s.seg_size then reached s q.segment (q.offset + length bytes) else reached s (suc q.segment) (16 + length bytes)) frames).segment) (sym at)
    where
      of : (b : Bool) → (open_after s (longer r bytes) frames).segment ≡ (after_frames s (reached s q.segment (q.offset + length bytes)) frames).segment
          → (open_after s (begun (suc r.segment) bytes) frames).segment ≡ (after_frames s (reached s (suc q.segment) (16 + length bytes)) frames).segment
          → (if b then open_after s (longer r bytes) frames else open_after s (begun (suc r.segment) bytes) frames).segment
          ≡ (after_frames s (if b then reached s q.segment (q.offset + length bytes) else reached s (suc q.segment) (16 + length bytes)) frames).segment
      of true here there = here
      of false here there = there

  -- so it is no greater than the tail
  pub open-upto : (tail : ℕ) (frames : List Bytes) (text : List Frame) → 16 ≤ s.seg_size → frames ≡ map (λ f. bytes_of f) text → FitSegments s frames
      → (open_after s (opened (tail / s.seg_size) (tail % s.seg_size)) frames).segment ≤ tail_after s tail text
  open-upto tail frames text room h fits =
      let q : Reached = from_tail s tail in
      let n : ℕ = tail / s.seg_size in
      let at : ℕ = tail % s.seg_size in
      let same = open-reached q (opened n at) frames (sym (opened-segment n at)) (sym (opened-end n at)) in
      let is = frames-are s q frames (start-is s tail room) fits in
      let above = is.above in
      let one : (after_frames s q frames).segment * 1 ≤ (after_frames s q frames).segment * s.seg_size = mul-le-mul_left (after_frames s q frames).segment (omega arith) in
      let end = text_tail s tail frames text h in
      omega (arith, same, above, one, end)

-- the first bytes of a new segment
pub begun_is : (n : ℕ) (bytes empty header : Bytes) → empty ≡ [] → header ≡ segment_header n → bytes ≡ empty ++ header → span_of (record { segment = n; from = 0 }) bytes ≡ begun n []
begun_is n bytes empty header none h is = ap (λ (bs : Bytes). begun_with bs) (is ∙ ap (λ (bs : Bytes). bs ++ header) none ∙ h)
  where
    begun_with : Bytes → Span
    begun_with bs = record { segment = n; offset = 0; bytes = bs }

-- a commit's first span, if its segment is new
pub opened-new : (n at : ℕ) → at ≤ 0 → begun n [] ≡ opened n at
opened-new n zero none = refl
opened-new n (suc at) none = absurd (omega arith)
