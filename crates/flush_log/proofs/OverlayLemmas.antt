-- Overwriting bytes; files that agree at some places.
use Rattle.std.proofs.Common.{◌≡◌, inl, inr, ⊎_elim, ℕ, ◌+◌, ◌-◌, ◌<◌, ◌≤◌, List, length, get_or, take, drop, refl, sym, ◌∙◌, ap, rules, arith}
use Rattle.std.proofs.lemmas.Bool.{cases_lt}
use Rattle.std.proofs.lemmas.List.{places, same_lists, ext_get_or, get_or_default, length-take, length-drop}
use Rattle.flush_log.specs.Overlay.{overlay, IsBeside, AgreeAt}

-- ---- one range

pub length-overlay : (file : List ℕ) (at : ℕ) (bytes : List ℕ) → at + length bytes ≤ length file → length (overlay file at bytes) ≡ length file
length-overlay file at bytes fits = search (rules, places)

overlay-below : (file : List ℕ) (at : ℕ) (bytes : List ℕ) (i : ℕ) → at + length bytes ≤ length file → i < at → get_or (overlay file at bytes) i 0 ≡ get_or file i 0
overlay-below file at bytes i fits low = search (rules, places)

overlay-above : (file : List ℕ) (at : ℕ) (bytes : List ℕ) (i : ℕ) → at + length bytes ≤ length file → at + length bytes ≤ i → get_or (overlay file at bytes) i 0 ≡ get_or file i 0
overlay-above file at bytes i fits high = search (rules, places)

overlay-inside : (file : List ℕ) (at : ℕ) (bytes : List ℕ) (i : ℕ) → at + length bytes ≤ length file → i < length bytes → get_or (overlay file at bytes) (at + i) 0 ≡ get_or bytes i 0
overlay-inside file at bytes i fits inside = search (rules, places)

pub overlay-at : (file : List ℕ) (at : ℕ) (bytes : List ℕ) (k i : ℕ) → at + length bytes ≤ length file → k ≡ at + i → i < length bytes → get_or (overlay file at bytes) k 0 ≡ get_or bytes i 0
overlay-at file at bytes k i fits is inside = ap (λ (j : ℕ). get_or (overlay file at bytes) j 0) is ∙ overlay-inside file at bytes i fits inside

-- beside the range nothing changed
pub overlay-beside : (file : List ℕ) (at : ℕ) (bytes : List ℕ) → at + length bytes ≤ length file → AgreeAt (IsBeside at (length bytes)) file (overlay file at bytes)
overlay-beside file at bytes fits = record {
  long = length-overlay file at bytes fits;
  same = λ i beside. ⊎_elim (λ low. overlay-below file at bytes i fits low) (λ high. overlay-above file at bytes i fits high) beside;
}

-- bytes that agree beside a range, and have these in it
pub overlay-is : (file c : List ℕ) (at : ℕ) (bytes : List ℕ) → at + length bytes ≤ length file → AgreeAt (IsBeside at (length bytes)) file c
    → ((i : ℕ) → i < length bytes → get_or c (at + i) 0 ≡ get_or bytes i 0) → c ≡ overlay file at bytes
overlay-is file c at bytes fits beside inside = ext_get_or 0 c (overlay file at bytes) (beside.long ∙ sym (length-overlay file at bytes fits)) (λ i lt. each i)
  where
    each : (i : ℕ) → get_or c i 0 ≡ get_or (overlay file at bytes) i 0
    each i = elim (cases_lt i at) [
      | inl low ↦ beside.same i (inl low) ∙ sym (overlay-below file at bytes i fits low)
      | inr from ↦ elim (cases_lt i (at + length bytes)) [
        | inl low ↦
            let is : i ≡ at + (i - at) = omega arith in
            ap (λ (j : ℕ). get_or c j 0) is ∙ inside (i - at) (omega arith) ∙ sym (overlay-at file at bytes i (i - at) fits is (omega arith))
        | inr high ↦ beside.same i (inr high) ∙ sym (overlay-above file at bytes i fits high)
      ]
    ]

-- the range as it is read
pub overlay-part : (file : List ℕ) (at : ℕ) (bytes : List ℕ) → at + length bytes ≤ length file → take (length bytes) (drop at (overlay file at bytes)) ≡ bytes
overlay-part file at bytes fits = same_lists _ _ (grind (arith, places)) (λ k d h. grind (arith, places))

-- ---- files that agree

module _ (Such : ℕ → Type 0) where
  pub agree_same : (file : List ℕ) → AgreeAt Such file file
  agree_same file = record { long = refl; same = λ i such. refl }

  pub agree_then : (a b c : List ℕ) → AgreeAt Such a b → AgreeAt Such b c → AgreeAt Such a c
  agree_then a b c ab bc = record { long = bc.long ∙ ab.long; same = λ i such. bc.same i such ∙ ab.same i such }

  -- at fewer places
  pub agree_less : (Fewer : ℕ → Type 0) (a b : List ℕ) → ((i : ℕ) → Fewer i → Such i) → AgreeAt Such a b → AgreeAt Fewer a b
  agree_less Fewer a b are ab = record { long = ab.long; same = λ i few. ab.same i (are i few) }

  -- the same bytes written over both
  pub agree_over : (a b : List ℕ) (at : ℕ) (bytes : List ℕ) → at + length bytes ≤ length a → AgreeAt Such a b → AgreeAt Such (overlay a at bytes) (overlay b at bytes)
  agree_over a b at bytes fits ab = record {
    long = length-overlay b at bytes fits_b ∙ ab.long ∙ sym (length-overlay a at bytes fits);
    same = λ i such. each i such;
  }
    where
      fits_b : at + length bytes ≤ length b
      fits_b = omega (arith, fits, ab.long)

      each : (i : ℕ) → Such i → get_or (overlay b at bytes) i 0 ≡ get_or (overlay a at bytes) i 0
      each i such = elim (cases_lt i at) [
        | inl low ↦ overlay-below b at bytes i fits_b low ∙ ab.same i such ∙ sym (overlay-below a at bytes i fits low)
        | inr from ↦ elim (cases_lt i (at + length bytes)) [
          | inl low ↦
              let is : i ≡ at + (i - at) = omega arith in
              overlay-at b at bytes i (i - at) fits_b is (omega arith) ∙ sym (overlay-at a at bytes i (i - at) fits is (omega arith))
          | inr high ↦ overlay-above b at bytes i fits_b high ∙ ab.same i such ∙ sym (overlay-above a at bytes i fits high)
        ]
      ]

  -- a part that has no other places
  pub part_same : (a b : List ℕ) (p n : ℕ) → p + n ≤ length a → ((i : ℕ) → p ≤ i → i < p + n → Such i) → AgreeAt Such a b → take n (drop p b) ≡ take n (drop p a)
  part_same a b p n l are ab =
      same_lists _ _ (let e = ab.long in grind (arith, places, e)) (λ k d h.
      let long = ab.long in
      let m : k < n = (let e = length-take n (drop p b) in let f = length-drop p b in grind (arith, h, e, f)) in
      let x : get_or b (p + k) 0 ≡ get_or a (p + k) 0 = ab.same (p + k) (are (p + k) (omega arith) (omega arith)) in
      let y : get_or b (p + k) d ≡ get_or b (p + k) 0 = get_or_default b (p + k) d 0 (omega arith) in
      let z : get_or a (p + k) d ≡ get_or a (p + k) 0 = get_or_default a (p + k) d 0 (omega arith) in
      grind (arith, places, x, y, z))
