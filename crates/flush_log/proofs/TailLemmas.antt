-- Tails: how far new frames move them, and what it means that a log is full.
use Rattle.std.specs.Prelude.{◌≡◌, ℕ, zero, suc, ◌+◌, ◌-◌, ◌*◌, ◌%◌, ◌/◌, ◌≤◌, ◌<◌, Bool, true, false, nat_le, List, [], ◌∷◌, length, None}
use Rattle.std.specs.List.{AllByRecursion, sum_by}
use Rattle.std.proofs.Common.{refl, ap, arith, leb-true, le-leb}
use Rattle.std.proofs.Math.Nat.{mul-le-mul_right}
use Rattle.std.proofs.lemmas.Bool.{leb-false}
use Rattle.std.proofs.lemmas.List.Sums.{sum_by-cons}
use Rattle.std.proofs.lemmas.Nat.{div-add-mod', mod_below}
use Rattle.keys.specs.Limits.{first_bad_field}
use Rattle.keys.specs.declared.settings.Settings.{Settings}
use Rattle.frame_codec.specs.declared.format.Format.{Format}
use Rattle.frame_codec.specs.Frame.{Frame, bytes_of, is_frame}
use Rattle.flush_log.specs.Layout.{placed_from, placed, past_header, tail_after, is_full_for_flush, is_full_for_clean}
use Rattle.flush_log.specs.Segments.{position, last_segment}
use Rattle.flush_log.proofs.FitLemmas.{are_sized}
use Rattle.flush_log.proofs.LayoutLemmas.{end_point, by_places, AllFit, text-end, past_header-within}
use Rattle.flush_log.proofs.ReadBackLemmas.{all_fit}

module _ (s : Settings) where
  -- ---- how far new frames move a tail

  end-above : (n offset : ℕ) (fs : List Frame) → offset ≤ s.seg_size → AllFit s fs
      → position s n offset + sum_by (λ f. length (bytes_of f)) fs ≤ position s (end_point n offset (placed_from s n offset fs)).0 (end_point n offset (placed_from s n offset fs)).1
  end-above =
      by_places s (λ n offset fs ps. offset ≤ s.seg_size → AllFit s fs → position s n offset + sum_by (λ f. length (bytes_of f)) fs ≤ position s (end_point n offset ps).0 (end_point n offset ps).1)
      (λ n offset room all. omega arith)
      (λ n offset f fs ps fit later room all. let rest = later fit all.1 in let sum = sum_by-cons (λ f. length (bytes_of f)) f fs in omega (arith, rest, sum))
      (λ n offset f fs ps later room all.
      let one = all.0 in
      let rest = later one all.1 in
      let sum = sum_by-cons (λ f. length (bytes_of f)) f fs in
      let next : suc n * s.seg_size ≡ n * s.seg_size + s.seg_size = omega arith in
      omega (arith, rest, sum, next, room))

  end-below : (n offset : ℕ) (fs : List Frame) → (end_point n offset (placed_from s n offset fs)).0 ≤ n + length fs
  end-below =
      by_places s (λ n offset fs ps. (end_point n offset ps).0 ≤ n + length fs) (λ n offset. omega arith) (λ n offset f fs ps fit later. omega arith) (λ n offset f fs ps later. omega arith)

  start-above : (tail : ℕ) → tail ≤ position s (tail / s.seg_size) (past_header (tail % s.seg_size))
  start-above tail = let parts = div-add-mod' tail s.seg_size in at_least (tail / s.seg_size * s.seg_size) (tail % s.seg_size) tail parts
    where
      at_least : (start at tail : ℕ) → start + at ≡ tail → tail ≤ start + past_header at
      at_least start zero tail is = omega arith
      at_least start (suc at) tail is = omega arith

  -- a position is within the segment that is the last one for it
  pub tail-below : (tail : ℕ) → 0 < s.seg_size → tail ≤ (last_segment s tail + 1) * s.seg_size
  tail-below tail some =
      let parts = div-add-mod' (tail - 1) s.seg_size in
      let low = mod_below (tail - 1) s.seg_size some in
      let sum : ((tail - 1) / s.seg_size + 1) * s.seg_size ≡ (tail - 1) / s.seg_size * s.seg_size + s.seg_size = omega arith in
      omega arith

  tail-parts : (tail : ℕ) → tail / s.seg_size * s.seg_size ≤ tail
  tail-parts tail = let parts = div-add-mod' tail s.seg_size in omega arith

module _ (g : Format) (good : first_bad_field g.settings ≡ None) where
  -- the bytes of new frames lie between their tails
  pub tail-rises : (tail : ℕ) (text : List Frame) → AllByRecursion (λ f. is_frame g f ≡ true) text → tail + sum_by (λ f. length (bytes_of f)) text ≤ tail_after g.settings tail text
  tail-rises tail [] within = omega arith
  tail-rises tail (f ∷ fs) within =
      let least = (are_sized g.settings good).least_size in
      let all = all_fit g good (f ∷ fs) within in
      let below = mod_below tail g.settings.seg_size (omega arith) in
      let start = past_header-within g.settings.seg_size (tail % g.settings.seg_size) below (omega arith) in
      let above = end-above g.settings (tail / g.settings.seg_size) (past_header (tail % g.settings.seg_size)) (f ∷ fs) start.1 all in
      let first = start-above g.settings tail in
      let (is, within_segment) = text-end g.settings tail (f ∷ fs) (omega arith) (omega arith) all in
      omega (arith, is, above, first)

  -- each frame moves it into the next segment at most
  pub tail-bounded : (tail : ℕ) (text : List Frame) → AllByRecursion (λ f. is_frame g f ≡ true) text → tail_after g.settings tail text ≤ tail + (length text + 1) * g.settings.seg_size
  tail-bounded tail [] within = omega arith
  tail-bounded tail (f ∷ fs) within =
      let least = (are_sized g.settings good).least_size in
      let (is, within_segment) = text-end g.settings tail (f ∷ fs) (omega arith) (omega arith) (all_fit g good (f ∷ fs) within) in
      let end : ℕ × ℕ = end_point (tail / g.settings.seg_size) (past_header (tail % g.settings.seg_size)) (placed g.settings tail (f ∷ fs)) in
      let below = end-below g.settings (tail / g.settings.seg_size) (past_header (tail % g.settings.seg_size)) (f ∷ fs) in
      let start = tail-parts g.settings tail in
      let most : (end_point (tail / g.settings.seg_size) (past_header (tail % g.settings.seg_size)) (placed g.settings tail (f ∷ fs))).0 * g.settings.seg_size ≤ (tail / g.settings.seg_size + length (f ∷ fs)) * g.settings.seg_size = mul-le-mul_right g.settings.seg_size below in
      let parts : (tail / g.settings.seg_size + length (f ∷ fs)) * g.settings.seg_size ≡ tail / g.settings.seg_size * g.settings.seg_size + length (f ∷ fs) * g.settings.seg_size = omega arith in
      omega (arith, is, within_segment, most, parts, start)

module _ (s : Settings) (good : first_bad_field s ≡ None) where
  -- and not past the segments that there are, where it finds room
  pub tail-in-room : (head tail : ℕ) → last_segment s tail < head + s.segments → tail ≤ (head + s.segments) * s.seg_size
  tail-in-room head tail room =
      let least = (are_sized s good).least_size in
      let below = tail-below s tail (omega arith) in
      let most : (last_segment s tail + 1) * s.seg_size ≤ (head + s.segments) * s.seg_size = mul-le-mul_right s.seg_size (omega arith) in
      omega arith

-- ---- full logs

pub room-for-clean : (s : Settings) (head tail : ℕ) → is_full_for_clean s head tail ≡ false → last_segment s tail < head + s.segments
room-for-clean s head tail h = leb-false (head + s.segments) (last_segment s tail) h

-- a flush leaves one segment more
pub room-for-flush : (s : Settings) (head tail : ℕ) → is_full_for_flush s head tail ≡ false → last_segment s tail + 1 < head + s.segments
room-for-flush s head tail h = let room = leb-false (head + s.segments - 1) (last_segment s tail) h in omega arith

-- there is no room for frames as large as all segments together
pub too-long : (g : Format) (head tail : ℕ) (text : List Frame) → first_bad_field g.settings ≡ None → AllByRecursion (λ f. is_frame g f ≡ true) text → head * g.settings.seg_size < tail
    → g.settings.segments * g.settings.seg_size ≤ sum_by (λ f. length (bytes_of f)) text → is_full_for_clean g.settings head (tail_after g.settings tail text) ≡ true
too-long g head tail text good within less long = of (is_full_for_clean g.settings head (tail_after g.settings tail text)) refl
  where
    of : (b : Bool) → is_full_for_clean g.settings head (tail_after g.settings tail text) ≡ b → b ≡ true
    of true h = refl
    of false h =
        let rises = tail-rises g good tail text within in
        let room = tail-in-room g.settings good head (tail_after g.settings tail text) (room-for-clean g.settings head (tail_after g.settings tail text) h) in
        let parts : (head + g.settings.segments) * g.settings.seg_size ≡ head * g.settings.seg_size + g.settings.segments * g.settings.seg_size = omega arith in
        absurd (omega (arith, rises, room, parts, long, less))

-- a log that is full for a clean is full for a flush
pub full-for-flush : (s : Settings) (head tail : ℕ) → is_full_for_clean s head tail ≡ true → is_full_for_flush s head tail ≡ true
full-for-flush s head tail h = let full = leb-true (head + s.segments) (last_segment s tail) h in le-leb (head + s.segments - 1) (last_segment s tail) (omega arith)

-- a log that is full for a clean is full for a flush of the log that begins one segment later
pub clean-is-flush : (s : Settings) (head tail : ℕ) → is_full_for_clean s head tail ≡ is_full_for_flush s (suc head) tail
clean-is-flush s head tail = let same : head + s.segments ≡ suc head + s.segments - 1 = omega arith in ap (λ (n : ℕ). nat_le n (last_segment s tail)) same
