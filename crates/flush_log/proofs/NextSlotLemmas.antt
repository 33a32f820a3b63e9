-- The slot of a commit is well formed.
use Rattle.std.proofs.Common.{◌≡◌, ◌⊎◌, inl, inr, ⊎_elim, ℕ, zero, suc, ◌+◌, ◌-◌, ◌*◌, ◌/◌, ◌%◌, ◌^◌, ◌<◌, ◌≤◌, true, ◌||◌, ◌==◌, nat_lt, List, [], ◌∷◌, length, None, refl, sym, ◌∙◌, subst, ap₂, arith, ltb-true, lt-ltb, eqb-true}
use Rattle.std.proofs.lemmas.Bool.{or_cases, or_right}
use Rattle.std.proofs.Math.Nat.{mul-le-mul_right, le-div_iff_mul-le, div-mul-le_self}
use Rattle.std.specs.List.{AllByRecursion}
use Rattle.keys.specs.Limits.{first_bad_field}
use Rattle.keys.specs.declared.settings.Settings.{Settings}
use Rattle.frame_codec.specs.declared.format.Format.{Format}
use Rattle.frame_codec.specs.Frame.{Frame, is_frame}
use Rattle.flush_log.specs.Segments.{position, last_segment, bytes_in_use}
use Rattle.flush_log.specs.Layout.{placed_from, placed, past_header, tail_after}
use Rattle.flush_log.specs.Slot.{Slot, greatest, is_tail, is_slot}
use Rattle.flush_log.proofs.FitLemmas.{are_sized}
use Rattle.flush_log.proofs.LayoutLemmas.{end_point, by_places, split-tail, segments-rise, Start, starts, text-end, text-last}
use Rattle.flush_log.proofs.LayoutLemmas.Start.{Inside, Following}
use Rattle.flush_log.proofs.ReadBackLemmas.{all_fit}
use Rattle.flush_log.proofs.SlotLemmas.{IsSlot, is-slot}

module _ (s : Settings) where
  -- a tail that lies after a byte of a segment's frames, of the segment q
  pub record EndsIn (tail q used : ℕ) : Type 0 where
    pub is : tail ≡ position s q used
    pub low : 16 < used
    pub high : used ≤ s.seg_size

  tail_at : (q used n at : ℕ) → Start s q used n at → 16 < used → (at == 0 || nat_lt 16 at) ≡ true
  tail_at q used n at (Inside room) low = or_right (used == 0) (nat_lt 16 used) (lt-ltb 16 used low)
  tail_at q used n at (Following full) low = refl

  pub tail_good : (tail q used : ℕ) → 0 < s.seg_size → EndsIn tail q used → is_tail s tail ≡ true
  tail_good tail q used some e = tail_at q used (tail / s.seg_size) (tail % s.seg_size) (starts s q used tail e.is e.high some) e.low

  used_low : (q used n at : ℕ) → Start s q used n at → 256 ≤ s.seg_size → 1 ≤ used → (at == 0 || nat_lt 16 at) ≡ true → 16 < used
  used_low q used n at (Inside room) size some is =
      ⊎_elim (λ zero_is. absurd (let e = eqb-true used 0 zero_is in omega arith)) (λ above. ltb-true 16 used above) (or_cases (used == 0) (nat_lt 16 used) is)
  used_low q used n at (Following full) size some is = omega arith

  -- so does that of a slot
  pub slot_ends : (n : ℕ) (t : Slot) → 256 ≤ s.seg_size → IsSlot s n t → EndsIn t.tail (last_segment s t.tail) (bytes_in_use s t.tail)
  slot_ends n t size f =
      let following = f.following in
      let split = split-tail s t.head t.tail (omega arith) (omega arith) in
      let start = starts s (last_segment s t.tail) (bytes_in_use s t.tail) t.tail split.is split.high (omega arith) in
      record { is = split.is; low = used_low (last_segment s t.tail) (bytes_in_use s t.tail) (t.tail / s.seg_size) (t.tail % s.seg_size) start size split.low f.ends; high = split.high }

  -- new frames end after the header of a segment
  ends_high : (n offset : ℕ) (fs : List Frame) → 16 ≤ offset → (16 < offset) ⊎ (1 ≤ length fs) → 16 < (end_point n offset (placed_from s n offset fs)).1
  ends_high =
      by_places s (λ n offset fs ps. 16 ≤ offset → (16 < offset) ⊎ (1 ≤ length fs) → 16 < (end_point n offset ps).1)
      (λ n offset low which. ⊎_elim (λ above. above) (λ some. absurd (omega arith)) which)
      (λ n offset f fs ps room later low which. later (omega arith) (inl (omega arith)))
      (λ n offset f fs ps later low which. later (omega arith) (inl (omega arith)))

  header_low : (at : ℕ) → (at == 0 || nat_lt 16 at) ≡ true → 16 ≤ past_header at
  header_low zero is = omega arith
  header_low (suc at) is = ⊎_elim (λ zero_is. absurd (let e = eqb-true (suc at) 0 zero_is in omega arith)) (λ above. let h = ltb-true 16 (suc at) above in omega arith) (or_cases (suc at == 0) (nat_lt 16 (suc at)) is)

  -- the tail after new frames, and its segment, which is that of the tail before or a later one
  record NewEnd (tail new : ℕ) : Type 0 where
    ends : EndsIn new (last_segment s new) (bytes_in_use s new)
    rises : last_segment s tail ≤ last_segment s new

module _ (g : Format) where
  new_end : first_bad_field g.settings ≡ None → (n : ℕ) (t : Slot) → IsSlot g.settings n t → (text : List Frame) → AllByRecursion (λ f. is_frame g f ≡ true) text → NewEnd g.settings t.tail (tail_after g.settings t.tail text)
  new_end good n t slot [] within = let sized = are_sized g.settings good in record { ends = slot_ends g.settings n t sized.least_size slot; rises = omega arith }
  new_end good n t slot (f ∷ fs) within =
      let sized = are_sized g.settings good in
      let least = sized.least_size in
      let following = slot.following in
      let all = all_fit g good (f ∷ fs) within in
      let at : ℕ = past_header (t.tail % g.settings.seg_size) in
      let e : ℕ × ℕ = end_point (t.tail / g.settings.seg_size) at (placed g.settings t.tail (f ∷ fs)) in
      let (is, ends) = text-end g.settings t.tail (f ∷ fs) (omega arith) (omega arith) all in
      let (last, used) = text-last g.settings t.tail (f ∷ fs) (omega arith) (omega arith) all in
      let high = ends_high g.settings (t.tail / g.settings.seg_size) at (f ∷ fs) (header_low g.settings (t.tail % g.settings.seg_size) slot.ends) (inr (omega arith)) in
      let rise = segments-rise g.settings (t.tail / g.settings.seg_size) at (f ∷ fs) in
      let floor = div-mul-le_self (t.tail - 1) g.settings.seg_size in
      let less : (t.tail - 1) / g.settings.seg_size ≤ t.tail / g.settings.seg_size = (le-div_iff_mul-le {k = g.settings.seg_size} {x = (t.tail - 1) / g.settings.seg_size} {y = t.tail} (omega arith)).1 (omega arith) in
      record {
        ends = record {
          is = is ∙ ap₂ (position g.settings) (sym last) (sym used);
          low = omega (arith, used, high);
          high = omega (arith, used, ends.1);
        };
        rises = omega (arith, last, rise, less);
      }

-- if its number and its tail are not spent, and its segments are free
pub next_good : (g : Format) (n : ℕ) (t u : Slot) (text : List Frame) → first_bad_field g.settings ≡ None → IsSlot g.settings n t → AllByRecursion (λ f. is_frame g f ≡ true) text →
    u.sequence ≡ suc t.sequence → u.sequence ≤ greatest → u.tail ≡ tail_after g.settings t.tail text → u.tail ≤ greatest → t.head ≤ u.head → u.head ≤ last_segment g.settings t.tail →
    last_segment g.settings u.tail < u.head + g.settings.segments → u.root < 2 ^ 64 → 1 ≤ u.height → u.height ≤ 64 → is_slot g.settings u.sequence u ≡ true
next_good g n t u text good slot within next few tail small from to free root low high =
    let sized = are_sized g.settings good in
    let least = sized.least_size in
    let new : NewEnd g.settings t.tail u.tail = subst (λ (x : ℕ). NewEnd g.settings t.tail x) (sym tail) (new_end g good n t slot text within) in
    let ends = new.ends in
    let is = ends.is in
    let above = ends.low in
    let rises = new.rises in
    let before : u.head * g.settings.seg_size ≤ last_segment g.settings u.tail * g.settings.seg_size = mul-le-mul_right g.settings.seg_size (omega arith) in
    is-slot g.settings u.sequence u (record {
      sequence = (omega arith, few);
      own = refl;
      following = omega (arith, is, above, before);
      tail = small;
      ends = tail_good g.settings u.tail (last_segment g.settings u.tail) (bytes_in_use g.settings u.tail) (omega arith) ends;
      last = free;
      root = root;
      height = (low, high);
    })
