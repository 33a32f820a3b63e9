-- Bytes after the tail, and of segments that are not in use, are not read.
use Rattle.std.specs.Prelude.{◌≡◌, ℕ, suc, ◌+◌, ◌-◌, ◌*◌, ◌%◌, ◌/◌, ◌≤◌, ◌<◌, List, [], ◌∷◌, length, drop, None, true}
use Rattle.std.specs.List.{AllByRecursion}
use Rattle.std.proofs.Common.{refl, sym, ap, ◌∙◌, arith, inl, inr, length-append}
use Rattle.std.proofs.Math.Nat.{mul-le-mul_right}
use Rattle.std.proofs.lemmas.Bool.{cases_lt}
use Rattle.std.proofs.lemmas.List.{take-take}
use Rattle.keys.specs.Limits.{first_bad_field}
use Rattle.keys.specs.declared.settings.Settings.{Settings}
use Rattle.frame_codec.specs.declared.format.Format.{Format}
use Rattle.frame_codec.specs.Frame.{Frame, bytes_of, is_frame}
use Rattle.index_page.proofs.ListLemmas.{all_weaker}
use Rattle.flush_log.specs.Commit.{AreWithin, IsBesideSpans}
use Rattle.flush_log.specs.Overlay.{IsBeside, AgreeAt}
use Rattle.flush_log.specs.Reading.{log_between}
use Rattle.flush_log.specs.Segments.{place_of_segment, HasSegments, IsInLog, position, last_segment, bytes_in_use}
use Rattle.flush_log.specs.Layout.{PlacedFrame, Span, placed_from, past_header, tail_after, end_of, longer, begun, opened, spans_from, spans, place_of_span}
use Rattle.flush_log.proofs.FitLemmas.{are_sized}
use Rattle.flush_log.proofs.LayoutLemmas.{end_point, by_places, AllFit, split-tail, Start, starts, opened-segment, opened-end, opened-inside, past_header-within, text-last, goes_on_span, next_span, filled-end}
use Rattle.flush_log.proofs.LayoutLemmas.Start.{Inside, Following}
use Rattle.flush_log.proofs.OverlayLemmas.{part_same}
use Rattle.flush_log.proofs.PlaceLemmas.{remainders_differ, place-within, places-beside}
use Rattle.flush_log.proofs.ReadBackLemmas.{log-same, all_fit}

module _ (s : Settings) where
  -- a segment's positions are below the next one's
  next_above : (m n : ℕ) → m < n → m * s.seg_size + s.seg_size ≤ n * s.seg_size
  next_above m n h = let p : (m + 1) * s.seg_size ≤ n * s.seg_size = mul-le-mul_right s.seg_size (omega arith) in omega arith

  -- places of the log are places of segments
  pub in-segments : (head tail place : ℕ) → 0 < s.segments → IsInLog s head tail place → (512 ≤ place) × (place < 512 + s.segments * s.seg_size)
  in-segments head tail place some h =
      let p = place-within s h.segment some in
      let is = h.stands in
      let low = h.in_segment in
      (omega (arith, is), omega (arith, is, low, p))

module _ (g : Format) where
  -- files that agree at the places of the log have the same one
  pub hidden : (file other : List ℕ) (head tail : ℕ) → 0 < g.settings.seg_size → 0 < g.settings.segments → HasSegments g.settings file → head * g.settings.seg_size < tail → AgreeAt (IsInLog g.settings head tail) file other → log_between g other head tail ≡ log_between g file head tail
  hidden file other head tail size count whole h same =
      let split = split-tail g.settings head tail size h in
      let q : ℕ = last_segment g.settings tail in
      let used : ℕ = bytes_in_use g.settings tail in
      let from = split.from in
      let is = split.is in
      let low = split.low in
      let high = split.high in
      let k : ℕ = last_segment g.settings tail - head in
      let at : last_segment g.settings tail ≡ head + (last_segment g.settings tail - head) = omega (arith, from) in
      log-same g file other head k used
      (λ m less. let room = place-within g.settings (head + m) count in
      let below = next_above g.settings (head + m) (last_segment g.settings tail) (omega (arith, less, from)) in
      part_same (IsInLog g.settings head tail) file other (place_of_segment g.settings (head + m)) g.settings.seg_size (omega (arith, room, whole)) (λ i a b. record {
        segment = head + m;
        offset = i - place_of_segment g.settings (head + m);
        from_head = omega arith;
        in_segment = omega (arith, a, b);
        before_tail = omega (arith, a, b, below, is, low);
        stands = omega (arith, a);
      }) same)
      (let room = place-within g.settings (head + k) count in
      let same_start : (head + (last_segment g.settings tail - head)) * g.settings.seg_size ≡ last_segment g.settings tail * g.settings.seg_size = ap (λ (m : ℕ). m * g.settings.seg_size) (sym at) in
      take-take used g.settings.seg_size (drop (place_of_segment g.settings (head + k)) other) high
      ∙ part_same (IsInLog g.settings head tail) file other (place_of_segment g.settings (head + k)) used (omega (arith, room, whole, high)) (λ i a b. record {
        segment = head + k;
        offset = i - place_of_segment g.settings (head + k);
        from_head = omega arith;
        in_segment = omega (arith, a, b, high);
        before_tail = omega (arith, a, b, is, same_start);
        stands = omega (arith, a);
      }) same
      ∙ sym (take-take used g.settings.seg_size (drop (place_of_segment g.settings (head + k)) file) high))

-- ---- the places where frames are written

module _ (g : Format) where
  -- a span of the segment q from the byte `used` on, or of a later segment that is free
  record IsAfter (head q used : ℕ) (r : Span) : Type 0 where
    later : q ≤ r.segment
    beyond : r.segment ≡ q → used ≤ r.offset
    free : r.segment < head + g.settings.segments
    fits : end_of r ≤ g.settings.seg_size

  -- no place of the log is in it
  beside : (head tail q used : ℕ) (r : Span) → tail ≡ position g.settings q used → used ≤ g.settings.seg_size → IsAfter head q used r → (place : ℕ) → IsInLog g.settings head tail place → IsBeside (place_of_span g.settings r) (length r.bytes) place
  beside head tail q used r is high h place in_log =
      let m : ℕ = in_log.segment in
      let later = h.later in
      let free = h.free in
      let fits = h.fits in
      let from = in_log.from_head in
      let low = in_log.in_segment in
      let before = in_log.before_tail in
      let stands = in_log.stands in
      elim (cases_lt in_log.segment r.segment) [
        | inl less ↦
            (let apart = places-beside g.settings in_log.segment r.segment (remainders_differ in_log.segment r.segment g.settings.segments less (omega (arith, free, from))) in
            grind (arith, apart, fits, low, stands))
        | inr above ↦
            elim (cases_lt q in_log.segment) [
              | inl past ↦ (let p = next_above g.settings q in_log.segment past in absurd (omega (arith, p, before, is, high)))
              | inr most ↦
                  (let same : r.segment ≡ q = omega (arith, above, most, later) in
                  let here : in_log.segment ≡ r.segment = omega (arith, above, most, later) in
                  let start : place_of_segment g.settings in_log.segment ≡ place_of_segment g.settings r.segment = ap (λ (n : ℕ). place_of_segment g.settings n) here in
                  let first : in_log.segment * g.settings.seg_size ≡ q * g.settings.seg_size = ap (λ (n : ℕ). n * g.settings.seg_size) (here ∙ same) in
                  let beyond = h.beyond same in
                  inl (omega (arith, stands, start, first, before, is, beyond)))
            ]
      ]

  abbrev AreAfter : ℕ → ℕ → ℕ → ℕ → ℕ → List Frame → List PlacedFrame → Type 0
  AreAfter head q used n offset fs ps = (n ≤ (end_point n offset ps).0) × ((r : Span) → r.segment ≡ n → end_of r ≡ offset → q ≤ n → (n ≡ q → used ≤ r.offset) → offset ≤ g.settings.seg_size → AllFit g.settings fs →
      (end_point n offset ps).0 < head + g.settings.segments → AllByRecursion (IsAfter head q used) (spans_from g.settings r ps))

  all-following : (head q used n offset : ℕ) (fs : List Frame) → AreAfter head q used n offset fs (placed_from g.settings n offset fs)
  all-following head q used =
      by_places g.settings (AreAfter head q used)
      (λ n offset. (
        omega arith,
        λ r number end later beyond room all free.
            (record { later = omega (arith, number, later); beyond = λ e. beyond (omega (arith, e, number)); free = omega (arith, number, free); fits = omega (arith, end, room) }, tt),
      ))
      (λ n offset f fs ps fit further. (
        further.0,
        λ r number end later beyond room all free.
            let long = length-append r.bytes (bytes_of f) in
            rw (goes_on_span g.settings r (record { segment = n; offset = offset; frame = f }) ps number)
            (further.1 (longer r (bytes_of f)) number (omega (arith, long, end)) later beyond fit all.1 free),
      ))
      (λ n offset f fs ps further. (
        let rise = further.0 in omega arith,
        λ r number end later beyond room all free.
            let rise = further.0 in
            let full = filled-end g.settings r (omega (arith, end, room)) in
            rw (next_span g.settings r (record { segment = suc n; offset = 16; frame = f }) ps (ap suc (sym number))) (
              record { later = omega (arith, number, later); beyond = λ e. beyond (omega (arith, e, number)); free = omega (arith, number, rise, free); fits = omega (arith, full) },
              further.1 (begun (suc n) (bytes_of f)) refl (omega arith) (omega (arith, later)) (λ e. absurd (omega (arith, e, later))) (let one = all.0 in omega (arith, one)) all.1 free,
            ),
      ))

  starts-following : (head q used n at : ℕ) (fs : List Frame) → Start g.settings q used n at → 1 ≤ used → 16 ≤ g.settings.seg_size → AllFit g.settings fs
      → (end_point n (past_header at) (placed_from g.settings n (past_header at) fs)).0 < head + g.settings.segments
      → AllByRecursion (IsAfter head q used) (spans_from g.settings (opened n at) (placed_from g.settings n (past_header at) fs))
  starts-following head q used n at fs (Inside room) low high all free =
      let start = past_header-within g.settings.seg_size used room high in
      let offset : (opened q used).offset ≡ used = ap (λ (r : Span). r.offset) (opened-inside q used low) in
      (all-following head q used q (past_header used) fs).1 (opened q used) (opened-segment q used) (opened-end q used) (omega arith) (λ e. omega (arith, offset)) start.1 all free
  starts-following head q used n at fs (Following full) low high all free =
      (all-following head q used (suc q) 16 fs).1 (opened (suc q) 0) refl (opened-end (suc q) 0) (omega arith) (λ e. absurd (omega arith)) high all free

  module _ (good : first_bad_field g.settings ≡ None) where
    text-following : (head tail : ℕ) (text : List Frame) → head * g.settings.seg_size < tail → AllByRecursion (λ f. is_frame g f ≡ true) text → last_segment g.settings (tail_after g.settings tail text) < head + g.settings.segments
        → AllByRecursion (IsAfter head (last_segment g.settings tail) (bytes_in_use g.settings tail)) (spans g.settings tail text)
    text-following head tail [] h within free = tt
    text-following head tail (f ∷ fs) h within free =
        let least = (are_sized g.settings good).least_size in
        let split = split-tail g.settings head tail (omega arith) h in
        let all = all_fit g good (f ∷ fs) within in
        let (last, used) = text-last g.settings tail (f ∷ fs) (omega arith) (omega arith) all in
        starts-following head (last_segment g.settings tail) (bytes_in_use g.settings tail) (tail / g.settings.seg_size) (tail % g.settings.seg_size) (f ∷ fs)
        (starts g.settings (last_segment g.settings tail) (bytes_in_use g.settings tail) tail split.is split.high (omega arith)) split.low (omega arith) all (omega (arith, last, free))

    -- no place of the log is in a span of frames for which there is room
    pub text-beside : (head tail : ℕ) (text : List Frame) → head * g.settings.seg_size < tail → AllByRecursion (λ f. is_frame g f ≡ true) text → last_segment g.settings (tail_after g.settings tail text) < head + g.settings.segments
        → (place : ℕ) → IsInLog g.settings head tail place → IsBesideSpans g.settings (spans g.settings tail text) place
    text-beside head tail text h within free place in_log =
        let least = (are_sized g.settings good).least_size in
        let split = split-tail g.settings head tail (omega arith) h in
        all_weaker (IsAfter head (last_segment g.settings tail) (bytes_in_use g.settings tail)) (λ r. IsBeside (place_of_span g.settings r) (length r.bytes) place)
        (λ r following. beside head tail (last_segment g.settings tail) (bytes_in_use g.settings tail) r split.is split.high following place in_log) (spans g.settings tail text) (text-following head tail text h within free)

    -- nor one before the segments; and all lie within them
    pub text-apart : (head tail : ℕ) (text : List Frame) → head * g.settings.seg_size < tail → AllByRecursion (λ f. is_frame g f ≡ true) text → last_segment g.settings (tail_after g.settings tail text) < head + g.settings.segments
        → (place : ℕ) → place < 512 → IsBesideSpans g.settings (spans g.settings tail text) place
    text-apart head tail text h within free place low =
        all_weaker (IsAfter head (last_segment g.settings tail) (bytes_in_use g.settings tail)) (λ r. IsBeside (place_of_span g.settings r) (length r.bytes) place)
        (λ r following. inl (omega (arith, low))) (spans g.settings tail text) (text-following head tail text h within free)

    pub text-inside : (head tail : ℕ) (text : List Frame) → head * g.settings.seg_size < tail → AllByRecursion (λ f. is_frame g f ≡ true) text → last_segment g.settings (tail_after g.settings tail text) < head + g.settings.segments
        → AreWithin g.settings (512 + g.settings.segments * g.settings.seg_size) (spans g.settings tail text)
    text-inside head tail text h within free =
        let least = (are_sized g.settings good).least_count in
        all_weaker (IsAfter head (last_segment g.settings tail) (bytes_in_use g.settings tail)) (λ r. place_of_span g.settings r + length r.bytes ≤ 512 + g.settings.segments * g.settings.seg_size)
        (λ r following. let fits = following.fits in let room = place-within g.settings r.segment (omega arith) in omega (arith, fits, room)) (spans g.settings tail text) (text-following head tail text h within free)
