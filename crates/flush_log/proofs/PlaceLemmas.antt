-- The effect of a write on each segment, and the places of the segments.
use Rattle.std.specs.Prelude.{◌≡◌, ◌≢◌, ◌⊎◌, ℕ, ◌+◌, ◌*◌, ◌%◌, ◌/◌, ◌≤◌, ◌<◌, List, ◌++◌, length, take, drop}
use Rattle.std.proofs.Common.{arith, inl, inr}
use Rattle.std.proofs.Math.Nat.{mul-le-mul_right}
use Rattle.std.proofs.lemmas.Nat.{div-add-mod', mod_below}
use Rattle.std.proofs.lemmas.Bool.{cases_lt}
use Rattle.std.proofs.lemmas.List.{places, same_lists}
use Rattle.keys.specs.declared.settings.Settings.{Settings}
use Rattle.flush_log.specs.Layout.{Span, end_of, place_of_span}
use Rattle.flush_log.specs.Overlay.{overlay}
use Rattle.flush_log.specs.Segments.{place_of_segment, HasSegments, segment_bytes}
use Rattle.flush_log.proofs.OverlayLemmas.{length-overlay}

-- ---- overlays

-- the bytes up to the end of what is written, in a part that it lies in
pub overlay-within : (file bytes : List ℕ) (p at size : ℕ) → at + length bytes ≤ size → p + at ≤ length file
    → take (at + length bytes) (take size (drop p (overlay file (p + at) bytes))) ≡ take at (take size (drop p file)) ++ bytes
overlay-within file bytes p at size h l = same_lists _ _ (grind (arith, places)) (λ k d h. grind (arith, places))

-- a part that it lies beside
pub overlay-beside : (file bytes : List ℕ) (p at size : ℕ) → at + length bytes ≤ length file → (p + size ≤ at) ⊎ (at + length bytes ≤ p)
    → take size (drop p (overlay file at bytes)) ≡ take size (drop p file)
overlay-beside file bytes p at size l beside = same_lists _ _ (grind (arith, places)) (λ k d h. grind (arith, places, beside))

-- ---- segments

-- two numbers less than m apart differ by their remainders
pub remainders_differ : (a b m : ℕ) → a < b → b < a + m → a % m ≢ b % m
remainders_differ a b m l h e =
    let x = div-add-mod' a m in
    let y = div-add-mod' b m in
    elim (cases_lt (a / m) (b / m)) [
      | inl t ↦ (let t2 : a / m + 1 ≤ b / m = omega arith in let p : (a / m + 1) * m ≤ b / m * m = mul-le-mul_right m t2 in omega arith)
      | inr t ↦ (let p : b / m * m ≤ a / m * m = mul-le-mul_right m t in omega arith)
    ]

module _ (s : Settings) where
  pub place-within : (n : ℕ) → 0 < s.segments → place_of_segment s n + s.seg_size ≤ 512 + s.segments * s.seg_size
  place-within n h =
      let l : n % s.segments + 1 ≤ s.segments = (let r = mod_below n s.segments h in omega arith) in
      let p : (n % s.segments + 1) * s.seg_size ≤ s.segments * s.seg_size = mul-le-mul_right s.seg_size l in
      omega arith

  -- segments that are in use at the same time do not overlap
  pub places-beside : (m n : ℕ) → m % s.segments ≢ n % s.segments → (place_of_segment s m + s.seg_size ≤ place_of_segment s n) ⊎ (place_of_segment s n + s.seg_size ≤ place_of_segment s m)
  places-beside m n h =
      elim (cases_lt (m % s.segments) (n % s.segments)) [
        | inl t ↦ inl (let l : m % s.segments + 1 ≤ n % s.segments = omega arith in let p : (m % s.segments + 1) * s.seg_size ≤ n % s.segments * s.seg_size = mul-le-mul_right s.seg_size l in omega arith)
        | inr t ↦ inr (let l : n % s.segments + 1 ≤ m % s.segments = grind (arith, h, t) in let p : (n % s.segments + 1) * s.seg_size ≤ m % s.segments * s.seg_size = mul-le-mul_right s.seg_size l in omega arith)
      ]

  pub span-within : (file : List ℕ) (r : Span) → HasSegments s file → 0 < s.segments → end_of r ≤ s.seg_size → place_of_span s r + length r.bytes ≤ length file
  span-within file r w h l = let p = place-within r.segment h in omega arith

  pub whole-written : (file : List ℕ) (r : Span) → HasSegments s file → 0 < s.segments → end_of r ≤ s.seg_size → HasSegments s (overlay file (place_of_span s r) r.bytes)
  whole-written file r w h l =
      let p = span-within file r w h l in
      let e = length-overlay file (place_of_span s r) r.bytes (omega arith) in
      omega arith

  -- the segment that is written, and the others
  pub segment-written : (file : List ℕ) (r : Span) → HasSegments s file → 0 < s.segments → end_of r ≤ s.seg_size
      → take (end_of r) (segment_bytes s (overlay file (place_of_span s r) r.bytes) r.segment) ≡ take r.offset (segment_bytes s file r.segment) ++ r.bytes
  segment-written file r w h l =
      let p = span-within file r w h l in
      overlay-within file r.bytes (place_of_segment s r.segment) r.offset s.seg_size l (omega arith)

  pub segment-beside : (file : List ℕ) (r : Span) (m : ℕ) → HasSegments s file → 0 < s.segments → end_of r ≤ s.seg_size → m % s.segments ≢ r.segment % s.segments
      → segment_bytes s (overlay file (place_of_span s r) r.bytes) m ≡ segment_bytes s file m
  segment-beside file r m w h l ne =
      let p = span-within file r w h l in
      let apart = places-beside m r.segment ne in
      overlay-beside file r.bytes (place_of_segment s m) (place_of_span s r) s.seg_size (omega arith) (grind (arith, apart, l))
