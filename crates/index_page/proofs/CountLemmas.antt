-- How many of the entries have keys that aren't above a key.
use Rattle.std.specs.Prelude.{◌≡◌, ℕ, zero, suc, ◌+◌, ◌<◌, ◌≤◌, ◌⊎◌, true, false, List, [], ◌∷◌, length, slice_get, slice_index_or, Some, None}
use Rattle.std.specs.Ordering.{is_lt}
use Rattle.std.specs.Map.{keys_of}
use Rattle.std.proofs.Common.{refl, arith, Less, inl, inr}
use Rattle.std.proofs.lemmas.List.{length-map}
use Rattle.std.proofs.lemmas.Option.{slice_get-get_or, slice_get_within}
use Rattle.keys.specs.Bytes.{Bytes, Separators}
use Rattle.keys.specs.Order.{order, AreRisingKeys}
use Rattle.keys.proofs.MapLemmas.{flipped_less, order_itself}
use Rattle.page_search.specs.Above.{above}
use Rattle.page_search.specs.Floor.{floor}
use Rattle.page_search.specs.Places.{KeyGoesTo}
use Rattle.page_search.proofs.PlaceLemmas.{rising-by_place, rising-or_same}
use Rattle.index_page.specs.ChildList.{IsCountUpTo}

module _ (k : Bytes) where
  -- the first n of the keys aren't above k, and the others are
  record AreParted (ks : List Bytes) (n : ℕ) : Type 0 where
    within : n ≤ length ks
    before : (m : ℕ) (i : Bytes) → m < n → slice_get ks m ≡ Some i → is_lt (order k i) ≡ false
    from : (m : ℕ) (i : Bytes) → n ≤ m → slice_get ks m ≡ Some i → is_lt (order k i) ≡ true

  not_above : (i : Bytes) → (order i k ≡ Less) ⊎ (i ≡ k) → is_lt (order k i) ≡ false
  not_above i (inl b) = rw (flipped_less i k b) refl
  not_above i (inr e) = rw (e, order_itself k) refl

  parted-there : (ks : List Bytes) (at : ℕ) → AreRisingKeys ks → slice_get ks at ≡ Some k → AreParted ks (at + 1)
  parted-there ks at r p = record {
    within = let w = slice_get_within ks at k p in omega (arith, w);
    before = λ m i l q. not_above i (rising-or_same ks m at i k r q p (omega (arith, l)));
    from = λ m i l q. rw (rising-by_place ks at m k i r p q (omega (arith, l))) refl;
  }

  parted-goes_to : (ks : List Bytes) (at : ℕ) → KeyGoesTo k ks at → AreParted ks at
  parted-goes_to ks at g = record {
    within = g.within;
    before = λ m i l q. not_above i (inl (g.below m i l q));
    from = λ m i l q. rw (g.above m i l q) refl;
  }

  -- ---- the entries after the place

  following : (e : Bytes × ℕ) (es : Separators) (n : ℕ) → AreParted (keys_of (e ∷ es)) (suc n) → AreParted (keys_of es) n
  following e es n h = record {
    within = let w = h.within in omega (arith, w);
    before = λ m i l p. h.before (suc m) i (omega (arith, l)) p;
    from = λ m i l p. h.from (suc m) i (omega (arith, l)) p;
  }

  all_after : (e : Bytes × ℕ) (es : Separators) → AreParted (keys_of (e ∷ es)) zero → AreParted (keys_of es) zero
  all_after e es h = record {
    within = omega arith;
    before = λ m i l p. absurd (omega (arith, l));
    from = λ m i l p. h.from (suc m) i (omega arith) p;
  }

  first_is_above : (e : Bytes × ℕ) (es : Separators) → AreParted (keys_of (e ∷ es)) zero → is_lt (order k e.0) ≡ true
  first_is_above e es h = h.from zero e.0 (omega arith) refl

  first_is_up_to : (e : Bytes × ℕ) (es : Separators) (n : ℕ) → AreParted (keys_of (e ∷ es)) (suc n) → is_lt (order k e.0) ≡ false
  first_is_up_to e es n h = h.before zero e.0 (omega arith) refl

  above-next : (es : Separators) (n : ℕ) → AreParted (keys_of es) n → above k es ≡ slice_get es n
  above-next [] n h = refl
  above-next (e ∷ es) zero h = rw (first_is_above e es h) refl
  above-next (e ∷ es) (suc n) h = rw (first_is_up_to e es n h) (above-next es n (following e es n h))

  floor-none : (es : Separators) → AreParted (keys_of es) zero → floor k es ≡ None
  floor-none [] h = refl
  floor-none (e ∷ es) h = rw (floor-none es (all_after e es h), first_is_above e es h) refl

  floor-last : (es : Separators) (n at : ℕ) → AreParted (keys_of es) n → at + 1 ≡ n → floor k es ≡ slice_get es at
  floor-last es zero at h l = absurd (omega (arith, l))
  floor-last [] (suc n) at h l = absurd (let w = h.within in omega (arith, w))
  floor-last (e ∷ es) (suc n) zero h l =
      let none : n ≡ zero = omega (arith, l) in
      let rest : AreParted (keys_of es) zero = rw none at (following e es n h) in
      rw (floor-none es rest, first_is_up_to e es n h) refl
  floor-last (e ∷ es) (suc n) (suc at) h l =
      let rest = following e es n h in
      let w = rest.within in
      let last : floor k es ≡ slice_get es at = floor-last es n at rest (omega (arith, l)) in
      let there : slice_get es at ≡ Some (slice_index_or es at e) = slice_get-get_or es at e (omega (arith, w, l, length-map es (λ (f : Bytes × ℕ). f.0))) in
      rw (last, there) refl

  counted : (es : Separators) (n : ℕ) → AreParted (keys_of es) n → IsCountUpTo k es n
  counted es n h = record {
    within = let w = h.within in omega (arith, w, length-map es (λ (f : Bytes × ℕ). f.0));
    none = λ z. floor-none es (rw z at h);
    last = λ at l. floor-last es n at h l;
    next = above-next es n h;
  }

  -- a search that finds the key, or the place where it would go, has found how many there are up to it
  pub count-there : (es : Separators) (at : ℕ) → AreRisingKeys (keys_of es) → slice_get (keys_of es) at ≡ Some k → IsCountUpTo k es (at + 1)
  count-there es at r p = counted es (at + 1) (parted-there (keys_of es) at r p)

  pub count-goes_to : (es : Separators) (at : ℕ) → KeyGoesTo k (keys_of es) at → IsCountUpTo k es at
  count-goes_to es at g = counted es at (parted-goes_to (keys_of es) at g)
