-- The places of frames: laws of places and of tails.
use Rattle.std.specs.Prelude.{◌≡◌, ℕ, zero, suc, ◌+◌, ◌-◌, ◌*◌, ◌%◌, ◌/◌, ◌≤◌, ◌<◌, Bool, true, false, nat_le, replicate, if◌then◌else◌, List, [], ◌∷◌, length}
use Rattle.std.specs.List.{AllByRecursion}
use Rattle.std.proofs.Common.{refl, sym, ap, ◌∙◌, arith, subst, inl, inr, leb-true, length-append}
use Rattle.std.proofs.Math.Nat.{mul-le-mul_right}
use Rattle.std.proofs.lemmas.Bool.{cases_lt, eq-eqb, ne_eqb}
use Rattle.std.proofs.lemmas.Nat.{div-mul-add, mod-mul-add, div-add-mod', mod_below}
use Rattle.std.proofs.lemmas.List.{length-replicate}
use Rattle.keys.specs.declared.settings.Settings.{Settings}
use Rattle.frame_codec.specs.Frame.{Frame, bytes_of}
use Rattle.flush_log.specs.Reading.{Found}
use Rattle.flush_log.specs.Segments.{position, last_segment, bytes_in_use}
use Rattle.flush_log.specs.Layout.{PlacedFrame, offset_after, placed_from, placed, past_header, end_of_frames, tail_after, Span, longer, filled, begun, spans_from, end_of, opened}

-- the segment and the offset after the last of some frames
abbrev pub end_point : ℕ → ℕ → List PlacedFrame → ℕ × ℕ
end_point n offset [] = (n, offset)
end_point n offset (p ∷ ps) = end_point p.segment (offset_after p) ps

-- a frame as it is found at its place
abbrev pub found_at : PlacedFrame → Found
found_at p = record { segment = p.segment; frame = p.frame }

module _ (s : Settings) where
  -- each frame fits into a segment
  abbrev pub AllFit : List Frame → Type 0
  AllFit fs = AllByRecursion (λ f. 16 + length (bytes_of f) ≤ s.seg_size) fs

  -- a property of all lists of frames, from every place on, is shown by cases: no frame remains; the next one fits; it doesn't
  module _ (P : ℕ → ℕ → List Frame → List PlacedFrame → Type 0)
      (none : (n offset : ℕ) → P n offset [] [])
      (fits : (n offset : ℕ) (f : Frame) (fs : List Frame) (ps : List PlacedFrame) → offset + length (bytes_of f) ≤ s.seg_size → P n (offset + length (bytes_of f)) fs ps
      → P n offset (f ∷ fs) (record { segment = n; offset = offset; frame = f } ∷ ps))
      (over : (n offset : ℕ) (f : Frame) (fs : List Frame) (ps : List PlacedFrame) → P (suc n) (16 + length (bytes_of f)) fs ps
      → P n offset (f ∷ fs) (record { segment = suc n; offset = 16; frame = f } ∷ ps)) where
    by_test : (n offset : ℕ) (f : Frame) (fs : List Frame) (here there : List PlacedFrame) (b : Bool) → nat_le (offset + length (bytes_of f)) s.seg_size ≡ b
        → P n (offset + length (bytes_of f)) fs here → P (suc n) (16 + length (bytes_of f)) fs there
        → P n offset (f ∷ fs) (if b then (record { segment = n; offset = offset; frame = f } ∷ here) else (record { segment = suc n; offset = 16; frame = f } ∷ there))
    by_test n offset f fs here there true h same next = fits n offset f fs here (leb-true (offset + length (bytes_of f)) s.seg_size h) same
    by_test n offset f fs here there false h same next = over n offset f fs there next

    pub by_places : (n offset : ℕ) (fs : List Frame) → P n offset fs (placed_from s n offset fs)
    by_places n offset [] = none n offset
    by_places n offset (f ∷ fs) =
        by_test n offset f fs (placed_from s n (offset + length (bytes_of f)) fs) (placed_from s (suc n) (16 + length (bytes_of f)) fs)
        (nat_le (offset + length (bytes_of f)) s.seg_size) refl (by_places n (offset + length (bytes_of f)) fs) (by_places (suc n) (16 + length (bytes_of f)) fs)

  -- ---- where the last frame ends

  pub tail-following : (n offset : ℕ) (ps : List PlacedFrame) → end_of_frames s (position s n offset) ps ≡ position s (end_point n offset ps).0 (end_point n offset ps).1
  tail-following n offset [] = refl
  tail-following n offset (p ∷ ps) = tail-following p.segment (offset_after p) ps

  -- so the tail after new frames doesn't depend on the exact tail before them
  pub tail-text : (n offset : ℕ) (fs : List Frame) (tail : ℕ) → 1 ≤ length fs
      → end_of_frames s tail (placed_from s n offset fs) ≡ position s (end_point n offset (placed_from s n offset fs)).0 (end_point n offset (placed_from s n offset fs)).1
  tail-text =
      by_places (λ n offset fs ps. (tail : ℕ) → 1 ≤ length fs → end_of_frames s tail ps ≡ position s (end_point n offset ps).0 (end_point n offset ps).1)
      (λ n offset tail some. absurd (omega arith))
      (λ n offset f fs ps room later tail some. tail-following n (offset + length (bytes_of f)) ps)
      (λ n offset f fs ps later tail some. tail-following (suc n) (16 + length (bytes_of f)) ps)

  pub segments-rise : (n offset : ℕ) (fs : List Frame) → n ≤ (end_point n offset (placed_from s n offset fs)).0
  segments-rise =
      by_places (λ n offset fs ps. n ≤ (end_point n offset ps).0) (λ n offset. omega arith) (λ n offset f fs ps room later. later) (λ n offset f fs ps later. omega arith)

  -- it lies within its segment
  abbrev pub EndsWithin : ℕ → ℕ → List PlacedFrame → Type 0
  EndsWithin n offset ps = (1 ≤ (end_point n offset ps).1) × ((end_point n offset ps).1 ≤ s.seg_size)

  pub ends-within : (n offset : ℕ) (fs : List Frame) → 1 ≤ offset → offset ≤ s.seg_size → AllFit fs → EndsWithin n offset (placed_from s n offset fs)
  ends-within =
      by_places (λ n offset fs ps. 1 ≤ offset → offset ≤ s.seg_size → AllFit fs → EndsWithin n offset ps)
      (λ n offset low high all. (low, high))
      (λ n offset f fs ps room later low high all. later (omega arith) room all.1)
      (λ n offset f fs ps later low high all. later (omega arith) (let fit = all.0 in omega (arith, fit)) all.1)

  -- the end of new frames as their tail gives it
  pub last-is : (n offset : ℕ) → 1 ≤ offset → offset ≤ s.seg_size → last_segment s (position s n offset) ≡ n
  last-is n offset low high =
      let one_less : n * s.seg_size + offset - 1 ≡ n * s.seg_size + (offset - 1) = omega arith in
      ap (λ (y : ℕ). y / s.seg_size) one_less ∙ div-mul-add n s.seg_size (offset - 1) (omega arith)

  pub used-is : (n offset : ℕ) → 1 ≤ offset → offset ≤ s.seg_size → bytes_in_use s (position s n offset) ≡ offset
  used-is n offset low high =
      ap (λ (m : ℕ). n * s.seg_size + offset - m * s.seg_size) (last-is n offset low high) ∙ (let rest : n * s.seg_size + offset - n * s.seg_size ≡ offset = omega arith in rest)

  -- ---- a tail's segment, and how much of it is in use

  pub record Split (head tail : ℕ) : Type 0 where
    pub from : head ≤ last_segment s tail
    pub is : tail ≡ position s (last_segment s tail) (bytes_in_use s tail)
    pub low : 1 ≤ bytes_in_use s tail
    pub high : bytes_in_use s tail ≤ s.seg_size

  pub split-tail : (head tail : ℕ) → 0 < s.seg_size → head * s.seg_size < tail → Split head tail
  split-tail head tail some h =
      let d = div-add-mod' (tail - 1) s.seg_size in
      let m = mod_below (tail - 1) s.seg_size some in
      record {
        from = elim (cases_lt ((tail - 1) / s.seg_size) head) [
          | inl t ↦ (let t2 : (tail - 1) / s.seg_size + 1 ≤ head = omega arith in let x : ((tail - 1) / s.seg_size + 1) * s.seg_size ≤ head * s.seg_size = mul-le-mul_right s.seg_size t2 in absurd (omega (arith, x, d, m, h)))
          | inr t ↦ t
        ];
        is = omega (arith, d, h);
        low = omega (arith, d, h);
        high = omega (arith, d, m, h);
      }

  -- where what follows the tail begins: in its segment, or if that is full, in the next one
  pub data Start (q used : ℕ) : ℕ → ℕ → Type 0 where
    Inside : used < s.seg_size → Start q used q used
    Following : used ≡ s.seg_size → Start q used (suc q) 0

  pub starts : (q used tail : ℕ) → tail ≡ position s q used → used ≤ s.seg_size → 0 < s.seg_size → Start q used (tail / s.seg_size) (tail % s.seg_size)
  starts q used tail is high some =
      elim (cases_lt used s.seg_size) [
        | inl t ↦
            (let quotient : q ≡ tail / s.seg_size = sym (ap (λ (x : ℕ). x / s.seg_size) is ∙ div-mul-add q s.seg_size used t) in
            let rest : used ≡ tail % s.seg_size = sym (ap (λ (x : ℕ). x % s.seg_size) is ∙ mod-mul-add q s.seg_size used t) in
            subst (λ (n : ℕ). Start q used n (tail % s.seg_size)) quotient (subst (λ (at : ℕ). Start q used q at) rest (Inside t)))
        | inr t ↦
            (let full : used ≡ s.seg_size = omega arith in
            let is2 : tail ≡ suc q * s.seg_size + 0 = omega (arith, is, full) in
            let quotient : suc q ≡ tail / s.seg_size = sym (ap (λ (x : ℕ). x / s.seg_size) is2 ∙ div-mul-add (suc q) s.seg_size 0 some) in
            let rest : 0 ≡ tail % s.seg_size = sym (ap (λ (x : ℕ). x % s.seg_size) is2 ∙ mod-mul-add (suc q) s.seg_size 0 some) in
            subst (λ (n : ℕ). Start q used n (tail % s.seg_size)) quotient (subst (λ (at : ℕ). Start q used (suc q) at) rest (Following full)))
      ]

-- ---- the first span of a commit

pub opened-segment : (n at : ℕ) → (opened n at).segment ≡ n
opened-segment n zero = refl
opened-segment n (suc at) = refl

pub opened-end : (n at : ℕ) → end_of (opened n at) ≡ past_header at
opened-end n zero = omega arith
opened-end n (suc at) = omega arith

pub opened-inside : (n at : ℕ) → 1 ≤ at → opened n at ≡ record { segment = n; offset = at; bytes = [] }
opened-inside n zero some = absurd (omega arith)
opened-inside n (suc at) some = refl

pub past_header-within : (size at : ℕ) → at < size → 16 ≤ size → (1 ≤ past_header at) × (past_header at ≤ size)
past_header-within size zero low room = (omega arith, room)
past_header-within size (suc at) low room = (omega arith, omega arith)

module _ (s : Settings) where
  -- the end of new frames, if there is one
  pub text-end : (tail : ℕ) (fs : List Frame) → 16 ≤ s.seg_size → 1 ≤ length fs → AllFit s fs
      → (let n : ℕ = tail / s.seg_size in let at : ℕ = past_header (tail % s.seg_size) in
      (tail_after s tail fs ≡ position s (end_point n at (placed s tail fs)).0 (end_point n at (placed s tail fs)).1) × EndsWithin s n at (placed s tail fs))
  text-end tail fs room some all =
      let n : ℕ = tail / s.seg_size in
      let at : ℕ = past_header (tail % s.seg_size) in
      let below = mod_below tail s.seg_size (omega arith) in
      let start = past_header-within s.seg_size (tail % s.seg_size) below room in
      (tail-text s n at fs tail some, ends-within s n at fs start.0 start.1 all)

  pub text-last : (tail : ℕ) (fs : List Frame) → 16 ≤ s.seg_size → 1 ≤ length fs → AllFit s fs
      → (let e : ℕ × ℕ = end_point (tail / s.seg_size) (past_header (tail % s.seg_size)) (placed s tail fs) in
      (last_segment s (tail_after s tail fs) ≡ e.0) × (bytes_in_use s (tail_after s tail fs) ≡ e.1))
  text-last tail fs room some all =
      let e : ℕ × ℕ = end_point (tail / s.seg_size) (past_header (tail % s.seg_size)) (placed s tail fs) in
      let (is, within) = text-end tail fs room some all in
      (ap (λ (t : ℕ). last_segment s t) is ∙ last-is s e.0 e.1 within.0 within.1, ap (λ (t : ℕ). bytes_in_use s t) is ∙ used-is s e.0 e.1 within.0 within.1)

-- ---- spans

module _ (s : Settings) where
  filled_sum : (a b n : ℕ) → a + b ≤ n → a + (b + (n - (a + b))) ≡ n
  filled_sum a b n h = omega arith

  pub filled-end : (r : Span) → end_of r ≤ s.seg_size → end_of (filled s r) ≡ s.seg_size
  filled-end r h =
      ap (λ (n : ℕ). r.offset + n) (length-append r.bytes (replicate (s.seg_size - end_of r) 0))
      ∙ ap (λ (n : ℕ). r.offset + (length r.bytes + n)) (length-replicate {A = ℕ} (s.seg_size - end_of r) 0)
      ∙ filled_sum r.offset (length r.bytes) s.seg_size h

  -- a frame in the segment of the span makes it longer; one in the next segment fills it
  pub goes_on_span : (r : Span) (p : PlacedFrame) (ps : List PlacedFrame) → r.segment ≡ p.segment → spans_from s r (p ∷ ps) ≡ spans_from s (longer r (bytes_of p.frame)) ps
  goes_on_span r p ps same =
      ap (λ (b : Bool). if b then spans_from s (longer r (bytes_of p.frame)) ps else (filled s r ∷ spans_from s (begun p.segment (bytes_of p.frame)) ps)) (eq-eqb p.segment r.segment (sym same))

  pub next_span : (r : Span) (p : PlacedFrame) (ps : List PlacedFrame) → p.segment ≡ suc r.segment → spans_from s r (p ∷ ps) ≡ filled s r ∷ spans_from s (begun p.segment (bytes_of p.frame)) ps
  next_span r p ps next =
      ap (λ (b : Bool). if b then spans_from s (longer r (bytes_of p.frame)) ps else (filled s r ∷ spans_from s (begun p.segment (bytes_of p.frame)) ps)) (ne_eqb p.segment r.segment (λ e. omega arith))
