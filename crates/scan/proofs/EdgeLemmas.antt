-- Lemmas on the number of keys below an edge.
use Rattle.std.specs.Prelude.{◌≡◌, ℕ, zero, suc, ◌+◌, ◌<◌, ◌≤◌, Bool, true, false, not, ◌||◌, cond, List, [], ◌∷◌, length, slice_get, Some, count_by}
use Rattle.std.proofs.Common.{refl, sym, ap, ◌∙◌, arith, inl, inr}
use Rattle.std.specs.Ordering.{is_lt}
use Rattle.std.proofs.lemmas.List.Sums.{sum_by-cons}
use Rattle.std.proofs.lemmas.Option.{slice_get_within}
use Rattle.keys.specs.Order.{order, AreRisingKeys}
use Rattle.keys.specs.Range.{is_below}
use Rattle.keys.proofs.Basics.{less_by}
use Rattle.page_search.specs.Places.{count_below, KeyGoesTo}
use Rattle.page_search.proofs.PlaceLemmas.{rising-by_place, rising-or_same, below_iff_before_count}
use Rattle.scan.specs.Edge.{count_up_to}
use Rattle.scan.specs.Prefix.{begins_with}
use Rattle.scan.proofs.EmptyKey.{none_below_empty}
use Rattle.scan.proofs.LeafLemmas.{itself, above_not_below}
use Rattle.scan.proofs.PlaceLemmas.{under_prefix}

-- no key is below the empty key
pub none_under_empty : (lo : List ℕ) → length lo ≡ 0 → (k : List ℕ) → false ≡ is_below k lo
none_under_empty [] h = λ k. sym (none_below_empty k)
none_under_empty (x ∷ xs) h = absurd (omega arith)

module _ (test : List ℕ → Bool) where
  counted-cons : (k : List ℕ) (ks : List (List ℕ)) (b : Bool) → test k ≡ b → count_by test (k ∷ ks) ≡ cond b 1 0 + count_by test ks
  counted-cons k ks b h = sum_by-cons (λ j. cond (test j) 1 0) k ks ∙ ap (λ (c : Bool). cond c 1 0 + count_by test ks) h

  pub none_under : (ks : List (List ℕ)) → ((k : List ℕ) → test k ≡ false) → 0 ≡ count_by test ks
  none_under [] f = refl
  none_under (k ∷ ks) f =
      let more = counted-cons k ks false (f k) in
      let rest = none_under ks f in
      omega (arith, more, rest)

  pub all_under : (ks : List (List ℕ)) → ((k : List ℕ) → test k ≡ true) → length ks ≡ count_by test ks
  all_under [] f = refl
  all_under (k ∷ ks) f =
      let more = counted-cons k ks true (f k) in
      let rest = all_under ks f in
      omega (arith, more, rest)

  -- all keys before a place pass the test, and no other does
  pub split_count : (ks : List (List ℕ)) (at : ℕ) → at ≤ length ks → ((m : ℕ) (j : List ℕ) → m < at → slice_get ks m ≡ Some j → test j ≡ true) → ((m : ℕ) (j : List ℕ) → at ≤ m → slice_get ks m ≡ Some j → test j ≡ false) → at ≡ count_by test ks
  split_count [] zero w f g = refl
  split_count [] (suc at) w f g = absurd (omega arith)
  split_count (k ∷ ks) zero w f g =
      let more = counted-cons k ks false (g 0 k (omega arith) refl) in
      let rest = split_count ks zero (omega arith) (λ m j l q. absurd (omega arith)) (λ m j l q. g (suc m) j (omega arith) q) in
      omega (arith, more, rest)
  split_count (k ∷ ks) (suc at) w f g =
      let more = counted-cons k ks true (f 0 k (omega arith) refl) in
      let rest = split_count ks at (omega arith) (λ m j l q. f (suc m) j (omega arith) q) (λ m j l q. g (suc m) j (omega arith) q) in
      omega (arith, more, rest)

-- ---- after a key

module _ (k : List ℕ) (ks : List (List ℕ)) (r : AreRisingKeys ks) where
  up_to_there : (at : ℕ) → slice_get ks at ≡ Some k → (m : ℕ) (j : List ℕ) → m < at + 1 → slice_get ks m ≡ Some j → not (is_below k j) ≡ true
  up_to_there at p m j l q =
      elim (rising-or_same ks m at j k r q p (omega arith)) [
        | inl b ↦ ap not (above_not_below j k b)
        | inr e ↦ ap (λ (i : List ℕ). not (is_below k i)) e ∙ ap not (itself k)
      ]

  pub count_there : (at : ℕ) → at < length ks → slice_get ks at ≡ Some k → at + 1 ≡ count_up_to k ks
  count_there at w p =
      split_count (λ j. not (is_below k j)) ks (at + 1) (omega arith) (up_to_there at p)
      (λ m j l q. ap (λ o. not (is_lt o)) (rising-by_place ks at m k j r p q (omega arith)))

  pub count_gap : (at : ℕ) → KeyGoesTo k ks at → at ≡ count_up_to k ks
  count_gap at g =
      split_count (λ j. not (is_below k j)) ks at g.within
      (λ m j l q. ap not (above_not_below j k (g.below m j l q)))
      (λ m j l q. ap (λ o. not (is_lt o)) (g.above m j l q))

-- ---- after a prefix

abbrev pub is_up_to_prefix : List ℕ → List ℕ → Bool
is_up_to_prefix p k = is_below k p || begins_with p k

or_right : (b c : Bool) → c ≡ true → (b || c) ≡ true
or_right true c h = refl
or_right false c h = h

or_none : (b c : Bool) → b ≡ false → c ≡ false → (b || c) ≡ false
or_none true c g h = absurd (cc)
or_none false c g h = h

or_left : (b c : Bool) → b ≡ true → (b || c) ≡ true
or_left true c h = refl
or_left false c h = absurd (cc)

module _ (p : List ℕ) (ks : List (List ℕ)) (r : AreRisingKeys ks) where
  pub below_first : (m : ℕ) (j : List ℕ) → m < count_below p ks → slice_get ks m ≡ Some j → is_up_to_prefix p j ≡ true
  below_first m j l q = or_left (is_below j p) (begins_with p j) (ap is_lt ((below_iff_before_count p ks m j r q).1 l))

  -- a key that begins with the prefix passes, and so do all keys before it
  pub up_to_begun : (at : ℕ) (k : List ℕ) → slice_get ks at ≡ Some k → begins_with p k ≡ true → (m : ℕ) (j : List ℕ) → m < at + 1 → slice_get ks m ≡ Some j → is_up_to_prefix p j ≡ true
  up_to_begun at k s b m j l q =
      let own : is_up_to_prefix p k ≡ true = or_right (is_below k p) (begins_with p k) b in
      elim (rising-or_same ks m at j k r q s (omega arith)) [
        | inl o ↦ under_prefix j k p own (above_not_below j k o)
        | inr e ↦ ap (is_up_to_prefix p) e ∙ own
      ]

  not_below_from : (b : Bool) (at : ℕ) (k : List ℕ) → slice_get ks at ≡ Some k → is_below k p ≡ b → count_below p ks ≤ at → b ≡ false
  not_below_from true at k s h l = absurd (let before = (below_iff_before_count p ks at k r s).0 (less_by (order k p) h) in omega arith)
  not_below_from false at k s h l = refl

  -- a key that is not below the prefix and does not begin with it fails, and so do all keys after it
  pub past_prefix : (at : ℕ) (k : List ℕ) → slice_get ks at ≡ Some k → begins_with p k ≡ false → count_below p ks ≤ at → (m : ℕ) (j : List ℕ) → at ≤ m → slice_get ks m ≡ Some j → is_up_to_prefix p j ≡ false
  past_prefix at k s b c m j l q = by (is_up_to_prefix p j) refl
    where
      own : is_up_to_prefix p k ≡ false
      own = or_none (is_below k p) (begins_with p k) (not_below_from (is_below k p) at k s refl c) b

      by : (x : Bool) → is_up_to_prefix p j ≡ x → x ≡ false
      by true h =
          absurd (elim (rising-or_same ks at m k j r s q l) [
            | inl o ↦ (let t = under_prefix k j p h (above_not_below k j o) in let wrong : true ≡ false = sym t ∙ own in cc)
            | inr e ↦ (let wrong : true ≡ false = sym h ∙ ap (is_up_to_prefix p) (sym e) ∙ own in cc)
          ])
      by false h = refl

-- past the end there is no key
pub none_past : {P : Type 0} (ks : List (List ℕ)) (m : ℕ) (j : List ℕ) → length ks ≤ m → slice_get ks m ≡ Some j → P
none_past ks m j l q = absurd (let w = slice_get_within ks m j q in omega arith)
