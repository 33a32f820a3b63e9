-- Each frame of a commit is at its place after the commit is written.
use Rattle.std.specs.Prelude.{◌≡◌, ℕ, suc, ◌+◌, ◌-◌, ◌*◌, ◌/◌, ◌%◌, ◌≤◌, ◌<◌, true, List, [], ◌∷◌, ◌++◌, length, take, drop, replicate, None}
use Rattle.std.specs.List.{AllByRecursion}
use Rattle.std.proofs.Common.{refl, sym, ap, ◌∙◌, arith, subst, append_assoc, length-append}
use Rattle.std.proofs.lemmas.List.{take-take, drop-take, places}
use Rattle.std.proofs.Math.Seq.{take-append_seam, drop-append_seam}
use Rattle.std.proofs.lemmas.Nat.{mod_below}
use Rattle.keys.specs.Limits.{first_bad_field}
use Rattle.keys.specs.declared.settings.Settings.{Settings}
use Rattle.index_page.proofs.ListLemmas.{all_weaker}
use Rattle.frame_codec.specs.declared.format.Format.{Format}
use Rattle.frame_codec.specs.Frame.{Frame, bytes_of, is_frame}
use Rattle.flush_log.specs.Overlay.{overlay}
use Rattle.flush_log.specs.Segments.{segment_header, HasSegments, segment_bytes, last_segment, bytes_in_use}
use Rattle.flush_log.specs.Layout.{PlacedFrame, Span, placed_from, placed, past_header, tail_after, end_of, longer, filled, begun, opened, spans_from, spans, place_of_span, with_spans}
use Rattle.flush_log.proofs.FitLemmas.{are_sized}
use Rattle.flush_log.proofs.LayoutLemmas.{end_point, by_places, AllFit, split-tail, Start, starts, opened-segment, opened-end, past_header-within, text-last, goes_on_span, next_span, filled-end}
use Rattle.flush_log.proofs.LayoutLemmas.Start.{Inside, Following}
use Rattle.flush_log.proofs.PlaceLemmas.{remainders_differ, segment-written, segment-beside, whole-written, place-within}
use Rattle.flush_log.proofs.ReadBackLemmas.{all_fit}

-- ---- bytes in two parts

parts : (xs ys zs : List ℕ) (a b : ℕ) → take (a + b) xs ≡ ys ++ zs → length ys ≡ a → length zs ≡ b → (take a xs ≡ ys) × (take b (drop a xs) ≡ zs)
parts xs ys zs a b is la lb = (
  sym (take-take a (a + b) xs (omega arith)) ∙ ap (λ (l : List ℕ). take a l) is ∙ ap (λ (n : ℕ). take n (ys ++ zs)) (sym la) ∙ take-append_seam ys zs,
  sym (drop-take a b xs) ∙ ap (λ (l : List ℕ). drop a l) is ∙ ap (λ (n : ℕ). drop n (ys ++ zs)) (sym la) ∙ drop-append_seam ys zs,
)

module _ (s : Settings) where
  -- spans of later segments leave this one, as long as they are of one round
  pub others-leave : (m : ℕ) (file : List ℕ) (rs : List Span) → HasSegments s file → 0 < s.segments
      → AllByRecursion (λ r. (m < r.segment) × (r.segment < m + s.segments) × (end_of r ≤ s.seg_size)) rs → segment_bytes s (with_spans s file rs) m ≡ segment_bytes s file m
  others-leave m file [] whole some apart = refl
  others-leave m file (r ∷ rs) whole some (one, rest) =
      others-leave m (overlay file (place_of_span s r) r.bytes) rs (whole-written s file r whole some one.2) some rest
      ∙ segment-beside s file r m whole some one.2 (remainders_differ m r.segment s.segments one.0 one.1)

  start-long : (file : List ℕ) (n offset : ℕ) → HasSegments s file → 0 < s.segments → offset ≤ s.seg_size → length (take offset (segment_bytes s file n)) ≡ offset
  start-long file n offset whole some room =
      let within = place-within s n some in grind (arith, places, within, whole, room)

  -- the effect of the spans from an open span on: they lie in segments from its own on, and its bytes and each frame are at their places
  record AllStand (head n : ℕ) (file : List ℕ) (r : Span) (rs : List Span) (ps : List PlacedFrame) : Type 0 where
    spans : AllByRecursion (λ q. (n ≤ q.segment) × (q.segment < head + s.segments) × (end_of q ≤ s.seg_size)) rs
    span : take (end_of r) (segment_bytes s (with_spans s file rs) r.segment) ≡ take r.offset (segment_bytes s file r.segment) ++ r.bytes
    frames : AllByRecursion (λ p. take (length (bytes_of p.frame)) (drop p.offset (segment_bytes s (with_spans s file rs) p.segment)) ≡ bytes_of p.frame) ps

  abbrev Standing : ℕ → ℕ → List Frame → List PlacedFrame → Type 0
  Standing n offset fs ps = (n ≤ (end_point n offset ps).0) × ((head : ℕ) (file : List ℕ) (r : Span) → r.segment ≡ n → end_of r ≡ offset → offset ≤ s.seg_size → AllFit s fs → HasSegments s file → 0 < s.segments →
      head ≤ n → (end_point n offset ps).0 < head + s.segments → AllStand head n file r (spans_from s r ps) ps)

  stand-none : (n offset : ℕ) → Standing n offset [] []
  stand-none n offset = (
    omega arith,
    λ head file r number end room all whole some from free. record {
      spans = ((omega (arith, number), omega (arith, number, free), omega (arith, end, room)), tt);
      span = segment-written s file r whole some (omega (arith, end, room));
      frames = tt;
    },
  )

  stand-longer : (head n : ℕ) (file : List ℕ) (r : Span) (rs : List Span) (ps : List PlacedFrame) (f : Frame) → r.segment ≡ n → end_of r ≤ s.seg_size → HasSegments s file → 0 < s.segments
      → AllStand head n file (longer r (bytes_of f)) rs ps → AllStand head n file r rs (record { segment = n; offset = end_of r; frame = f } ∷ ps)
  stand-longer head n file r rs ps f number room whole some h =
      let new : List ℕ = segment_bytes s (with_spans s file rs) r.segment in
      let before : List ℕ = take r.offset (segment_bytes s file r.segment) in
      let long = start-long file r.segment r.offset whole some (omega arith) in
      let joined = length-append (take r.offset (segment_bytes s file r.segment)) r.bytes in
      let more = length-append r.bytes (bytes_of f) in
      let count : end_of r + length (bytes_of f) ≡ end_of (longer r (bytes_of f)) = omega (arith, more) in
      let both = parts new (before ++ r.bytes) (bytes_of f) (end_of r) (length (bytes_of f)) (ap (λ (m : ℕ). take m new) count ∙ h.span ∙ sym (append_assoc before r.bytes (bytes_of f))) (omega (arith, long, joined)) refl in
      record {
        spans = h.spans;
        span = both.0;
        frames = (subst (λ (m : ℕ). take (length (bytes_of f)) (drop (end_of r) (segment_bytes s (with_spans s file rs) m)) ≡ bytes_of f) number both.1, h.frames);
      }

  stand-over : (head n : ℕ) (file : List ℕ) (r : Span) (rs : List Span) (ps : List PlacedFrame) (f : Frame) → r.segment ≡ n → end_of r ≤ s.seg_size → HasSegments s file → 0 < s.segments → head ≤ n → n < head + s.segments
      → AllStand head (suc n) (overlay file (place_of_span s (filled s r)) (filled s r).bytes) (begun (suc n) (bytes_of f)) rs ps
      → AllStand head n file r (filled s r ∷ rs) (record { segment = suc n; offset = 16; frame = f } ∷ ps)
  stand-over head n file r rs ps f number room whole some from free h =
      let full : Span = filled s r in
      let mid : List ℕ = overlay file (place_of_span s full) full.bytes in
      let zeros : List ℕ = replicate (s.seg_size - end_of r) 0 in
      let before : List ℕ = take r.offset (segment_bytes s file r.segment) in
      let end = filled-end s r room in
      let long = start-long file r.segment r.offset whole some (omega arith) in
      let joined = length-append (take r.offset (segment_bytes s file r.segment)) r.bytes in
      let more = length-append r.bytes zeros in
      let count : end_of r + length zeros ≡ end_of (filled s r) = omega (arith, more) in
      let apart : AllByRecursion (λ q. (r.segment < q.segment) × (q.segment < r.segment + s.segments) × (end_of q ≤ s.seg_size)) rs =
      all_weaker (λ q. (suc n ≤ q.segment) × (q.segment < head + s.segments) × (end_of q ≤ s.seg_size)) (λ q. (r.segment < q.segment) × (q.segment < r.segment + s.segments) × (end_of q ≤ s.seg_size))
      (λ q l. (omega (arith, l, number), omega (arith, l, number, from), l.2)) rs h.spans in
      let left = others-leave r.segment mid rs (whole-written s file full whole some (omega (arith, end))) some apart in
      let filled_up = segment-written s file full whole some (omega (arith, end)) in
      let first = parts (segment_bytes s mid r.segment) (before ++ r.bytes) zeros (end_of r) (length zeros)
      (ap (λ (m : ℕ). take m (segment_bytes s mid r.segment)) count ∙ filled_up ∙ sym (append_assoc before r.bytes zeros)) (omega (arith, long, joined)) refl in
      let headed : 16 + length (bytes_of f) ≡ end_of (begun (suc n) (bytes_of f)) = omega arith in
      let begins = segment_bytes s (with_spans s mid rs) (suc n) in
      let next = parts begins (segment_header (suc n)) (bytes_of f) 16 (length (bytes_of f)) (ap (λ (m : ℕ). take m begins) headed ∙ h.span) refl refl in
      record {
        spans = (
          (omega (arith, number), omega (arith, number, free), omega (arith, end)),
          all_weaker (λ q. (suc n ≤ q.segment) × (q.segment < head + s.segments) × (end_of q ≤ s.seg_size)) (λ q. (n ≤ q.segment) × (q.segment < head + s.segments) × (end_of q ≤ s.seg_size))
              (λ q l. (omega (arith, l), l.1, l.2)) rs h.spans,
        );
        span = ap (λ (bs : List ℕ). take (end_of r) bs) left ∙ first.0;
        frames = (next.1, h.frames);
      }

  all-stand : (n offset : ℕ) (fs : List Frame) → Standing n offset fs (placed_from s n offset fs)
  all-stand =
      by_places s Standing stand-none
      (λ n offset f fs ps fit later. (
        later.0,
        λ head file r number end room all whole some from free.
            let p : PlacedFrame = record { segment = n; offset = offset; frame = f } in
            let long = length-append r.bytes (bytes_of f) in
            let h = later.1 head file (longer r (bytes_of f)) number (omega (arith, long, end)) fit all.1 whole some from free in
            let here = stand-longer head n file r (spans_from s (longer r (bytes_of f)) ps) ps f number (omega (arith, end, room)) whole some h in
            subst (λ (rs : List Span). AllStand head n file r rs (p ∷ ps)) (sym (goes_on_span s r p ps number))
            (subst (λ (at : ℕ). AllStand head n file r (spans_from s (longer r (bytes_of f)) ps) (record { segment = n; offset = at; frame = f } ∷ ps)) end here),
      ))
      (λ n offset f fs ps later. (
        let rise = later.0 in omega arith,
        λ head file r number end room all whole some from free.
            let p : PlacedFrame = record { segment = suc n; offset = 16; frame = f } in
            let rise = later.0 in
            let one = all.0 in
            let full = filled-end s r (omega (arith, end, room)) in
            let mid : List ℕ = overlay file (place_of_span s (filled s r)) (filled s r).bytes in
            let h = later.1 head mid (begun (suc n) (bytes_of f)) refl (omega arith) (omega (arith, one)) all.1 (whole-written s file (filled s r) whole some (omega (arith, full))) some (omega arith) free in
            subst (λ (rs : List Span). AllStand head n file r rs (p ∷ ps)) (sym (next_span s r p ps (ap suc (sym number))))
            (stand-over head n file r (spans_from s (begun (suc n) (bytes_of f)) ps) ps f number (omega (arith, end, room)) whole some from (omega (arith, rise, free)) h),
      ))

-- each frame of a commit for which there is room is at its place
pub text-stands : (g : Format) → first_bad_field g.settings ≡ None → (file : List ℕ) (head tail : ℕ) (text : List Frame) → HasSegments g.settings file → AllByRecursion (λ f. is_frame g f ≡ true) text → head * g.settings.seg_size < tail
    → last_segment g.settings (tail_after g.settings tail text) < head + g.settings.segments
    → AllByRecursion (λ p. take (length (bytes_of p.frame)) (drop p.offset (segment_bytes g.settings (with_spans g.settings file (spans g.settings tail text)) p.segment)) ≡ bytes_of p.frame) (placed g.settings tail text)
text-stands g good file head tail [] whole within h free = tt
text-stands g good file head tail (f ∷ fs) whole within h free =
    let n : ℕ = tail / g.settings.seg_size in
    let at : ℕ = tail % g.settings.seg_size in
    let sized = are_sized g.settings good in
    let least = sized.least_size in
    let count = sized.least_count in
    let split = split-tail g.settings head tail (omega arith) h in
    let all = all_fit g good (f ∷ fs) within in
    let (last, used) = text-last g.settings tail (f ∷ fs) (omega arith) (omega arith) all in
    let below = mod_below tail g.settings.seg_size (omega arith) in
    let start = past_header-within g.settings.seg_size at below (omega arith) in
    ((all-stand g.settings n (past_header at) (f ∷ fs)).1 head file (opened n at) (opened-segment n at) (opened-end n at) start.1 all whole (omega (arith, count))
    (from_head head (last_segment g.settings tail) (bytes_in_use g.settings tail) n at split.from (starts g.settings (last_segment g.settings tail) (bytes_in_use g.settings tail) tail split.is split.high (omega arith)))
    (omega (arith, last, free))).frames
  where
    from_head : (head q used n at : ℕ) → head ≤ q → Start g.settings q used n at → head ≤ n
    from_head head q used n at l (Inside room) = l
    from_head head q used n at l (Following full) = omega arith
