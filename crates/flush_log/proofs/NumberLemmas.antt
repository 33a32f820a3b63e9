-- Upper bounds on the numbers of a log.
use Rattle.std.proofs.Common.{◌≡◌, ◌↔◌, ℕ, suc, true, ◌+◌, ◌-◌, ◌*◌, ◌/◌, ◌^◌, ◌<◌, ◌≤◌, List, length, None, arith}
use Rattle.std.specs.List.{AllByRecursion}
use Rattle.std.proofs.Math.Nat.{le-div_iff_mul-le, mul-le-mul, mul-le-mul_left, mul-le-mul_right}
use Rattle.keys.specs.Limits.{first_bad_field}
use Rattle.keys.specs.declared.settings.Settings.{Settings}
use Rattle.frame_codec.specs.declared.format.Format.{Format}
use Rattle.frame_codec.specs.Frame.{Frame, is_frame}
use Rattle.flush_log.specs.Segments.{place_of_segment, position}
use Rattle.flush_log.specs.Layout.{tail_after}
use Rattle.flush_log.specs.Slot.{greatest}
use Rattle.flush_log.proofs.FitLemmas.{are_sized}
use Rattle.flush_log.proofs.PlaceLemmas.{place-within}
use Rattle.flush_log.proofs.TailLemmas.{tail-bounded}

module _ (s : Settings) (good : first_bad_field s ≡ None) where
  -- the room of all segments
  pub room : s.segments * s.seg_size ≤ 2 ^ 36
  room = let sized = are_sized s good in let all = mul-le-mul sized.most_count sized.most_size in omega arith

  pub place_small : (n offset : ℕ) → offset ≤ s.seg_size → place_of_segment s n + offset ≤ 512 + 2 ^ 36
  place_small n offset within =
      let sized = are_sized s good in
      let few = sized.least_count in
      let here = place-within s n (omega arith) in
      let all = room in
      omega arith

module _ (s : Settings) (head tail : ℕ) (good : first_bad_field s ≡ None) (following : head * s.seg_size + 16 < tail) (small : tail ≤ greatest) where
  pub head_small : head < 2 ^ 62
  head_small =
      let sized = (are_sized s good).least_size in
      let one : head * 1 ≤ head * s.seg_size = mul-le-mul_left head (omega arith) in
      omega arith

  pub head_end_small : head + s.segments < 2 ^ 63
  head_end_small = let h = head_small in let most = (are_sized s good).most_count in omega arith

  pub position_small : (n offset : ℕ) → n < head + s.segments → offset ≤ s.seg_size → position s n offset < 2 ^ 63
  position_small n offset before within =
      let all = room s good in
      let next : suc n * s.seg_size ≤ (head + s.segments) * s.seg_size = mul-le-mul_right s.seg_size (omega arith) in
      let here : suc n * s.seg_size ≡ n * s.seg_size + s.seg_size = omega arith in
      let parts : (head + s.segments) * s.seg_size ≡ head * s.seg_size + s.segments * s.seg_size = omega arith in
      omega arith

-- at most 2^41 frames move the tail by at most 2^62
pub tail_small : (g : Format) (tail : ℕ) (text : List Frame) → first_bad_field g.settings ≡ None → tail ≤ greatest → AllByRecursion (λ f. is_frame g f ≡ true) text → length text ≤ 2 ^ 41 → tail_after g.settings tail text < 2 ^ 63
tail_small g tail text good small within few =
    let most = (are_sized g.settings good).most_size in
    let bound = tail-bounded g good tail text within in
    let count : length text + 1 ≤ 2 ^ 41 + 1 = omega arith in
    let all : (length text + 1) * g.settings.seg_size ≤ (2 ^ 41 + 1) * 1048576 = mul-le-mul count most in
    omega arith

-- whether a tail lies after a head, of any two machine numbers
pub head_test : (s : Settings) (head tail : ℕ) → first_bad_field s ≡ None → (head * s.seg_size + 16 < tail) ↔ ((16 < tail) × (head ≤ (tail - 17) / s.seg_size))
head_test s head tail good =
    let least = (are_sized s good).least_size in
    let quotient = le-div_iff_mul-le {k = s.seg_size} {x = head} {y = tail - 17} (omega arith) in (
      λ following. (omega arith, quotient.1 (omega arith)),
      λ h. let below = quotient.0 h.1 in let some = h.0 in omega arith,
    )
