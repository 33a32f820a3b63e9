-- Lemmas on the place of a key among rising keys, for the proofs of this crate and of those above it.
use Rattle.std.specs.Prelude.{◌≡◌, ℕ, zero, suc, ◌+◌, ◌<◌, ◌≤◌, ◌⊎◌, ◌↔◌, Bool, true, false, cond, List, [], ◌∷◌, length, slice_get, slice_index_or, is_some, Some, None}
use Rattle.std.proofs.Common.{refl, ap, ◌∙◌, arith, Ordering, Less, Equal, Greater, inl, inr}
use Rattle.std.specs.Ordering.{is_lt, is_eq}
use Rattle.std.specs.Map.{keys_of, values_of}
use Rattle.std.proofs.lemmas.Bool.{cases_lt}
use Rattle.std.proofs.lemmas.List.{length-map}
use Rattle.std.proofs.lemmas.List.Sums.{sum_by-cons, count_by-le-length}
use Rattle.std.proofs.lemmas.Option.{slice_get-map, slice_get-get_or, get_or_from_slice_get, slice_get_within}
use Rattle.std.proofs.lemmas.Map.Keys.{any_passes_from_place, IsDistinct-from_sorted, Less-from_sorted, sorted_head, sorted_tail}
use Rattle.std.proofs.lemmas.Map.Entries.{lookup_from_place, lookup_at_gap}
use Rattle.std.proofs.lemmas.Map.Made.{is_some-lookup}
use Rattle.keys.specs.Order.{order, AreRisingKeys, IsRising}
use Rattle.keys.specs.OrderedMap.{value_at}
use Rattle.keys.proofs.MapLemmas.{total, alike, order_itself, is_itself, flipped_less}
use Rattle.page_search.specs.Places.{count_below, AreBelowBefore, AreAboveFrom, KeyGoesTo}

-- of rising keys, each is below those after it
pub rising-by_place : (ks : List (List ℕ)) (m n : ℕ) (i j : List ℕ) → AreRisingKeys ks → slice_get ks m ≡ Some i → slice_get ks n ≡ Some j → m < n → order i j ≡ Less
rising-by_place ks m n i j r p q l =
    let within = slice_get_within ks n j q in
    rw (get_or_from_slice_get ks m i i p, get_or_from_slice_get ks n j i q) at (Less-from_sorted order ks m n i r l within)

-- of rising keys, none is above a later one
pub rising-or_same : (ks : List (List ℕ)) (m n : ℕ) (i j : List ℕ) → AreRisingKeys ks → slice_get ks m ≡ Some i → slice_get ks n ≡ Some j → m ≤ n → (order i j ≡ Less) ⊎ (i ≡ j)
rising-or_same ks m n i j r p q l =
    elim (cases_lt m n) [
      | inl b ↦ inl (rising-by_place ks m n i j r p q b)
      | inr b ↦ (let same : m ≡ n = omega arith in inr (cc))
    ]

-- ---- how many keys are below a key

pub count_below-cons : (k j : List ℕ) (ks : List (List ℕ)) → count_below k (j ∷ ks) ≡ cond (is_lt (order j k)) 1 0 + count_below k ks
count_below-cons k j ks = sum_by-cons (λ x. cond (is_lt (order x k)) 1 0) j ks

-- no more keys are below k than there are
pub count_below-le-length : (k : List ℕ) (ks : List (List ℕ)) → count_below k ks ≤ length ks
count_below-le-length k ks = count_by-le-length (λ j. is_lt (order j k)) ks

-- the count is past each key that is below k
pub count_below-after : (k : List ℕ) (ks : List (List ℕ)) (at : ℕ) (j : List ℕ) → AreRisingKeys ks → slice_get ks at ≡ Some j → order j k ≡ Less → at < count_below k ks
count_below-after k [] at j r p h = absurd (cc)
count_below-after k (i ∷ ks) zero j r p h =
    let first : i ≡ j = cc in
    let below : order i k ≡ Less = rw first h in
    rw (count_below-cons, below) (omega arith)
count_below-after k (i ∷ ks) (suc at) j r p h =
    let below : order i k ≡ Less = total.trans i j k (rising-by_place (i ∷ ks) 0 (suc at) i j r refl p (omega arith)) h in
    let rest : at < count_below k ks = count_below-after k ks at j (sorted_tail order i ks r) p h in
    rw (count_below-cons, below) (omega arith)

-- after a key that is not below k, none is
not_below_by : (o : Ordering) (i j k : List ℕ) → order j k ≡ o → order i j ≡ Less → is_lt (order i k) ≡ false → is_lt o ≡ false
not_below_by Less i j k e l h = absurd (let below : order i k ≡ Less = total.trans i j k l e in let wrong = rw below at h in cc)
not_below_by Equal i j k e l h = refl
not_below_by Greater i j k e l h = refl

at_most_one : (b : Bool) → cond b 1 0 ≤ 1
at_most_one true = omega arith
at_most_one false = omega arith

-- and it is not past a key that is not below k
pub count_below-upto : (k : List ℕ) (ks : List (List ℕ)) (at : ℕ) (j : List ℕ) → AreRisingKeys ks → slice_get ks at ≡ Some j → is_lt (order j k) ≡ false → count_below k ks ≤ at
count_below-upto k [] at j r p h = omega arith
count_below-upto k (i ∷ []) zero j r p h =
    let first : i ≡ j = cc in
    let apart : is_lt (order i k) ≡ false = rw first h in
    rw (count_below-cons, apart) (omega arith)
count_below-upto k (i ∷ j' ∷ ks) zero j r p h =
    let first : i ≡ j = cc in
    let apart : is_lt (order i k) ≡ false = rw first h in
    let next : is_lt (order j' k) ≡ false = not_below_by (order j' k) i j' k refl (sorted_head order i (j' ∷ ks) r).0 apart in
    let rest : count_below k (j' ∷ ks) ≤ 0 = count_below-upto k (j' ∷ ks) zero j' (sorted_tail order i (j' ∷ ks) r) refl next in
    rw (count_below-cons, apart) (omega arith)
count_below-upto k (i ∷ ks) (suc at) j r p h =
    let rest : count_below k ks ≤ at = count_below-upto k ks at j (sorted_tail order i ks r) p h in
    let one = at_most_one (is_lt (order i k)) in
    rw count_below-cons (omega arith)

below_before_count : (o : Ordering) (k : List ℕ) (ks : List (List ℕ)) (at : ℕ) (j : List ℕ) → order j k ≡ o → AreRisingKeys ks → slice_get ks at ≡ Some j → at < count_below k ks → o ≡ Less
below_before_count Less k ks at j e r p l = refl
below_before_count Equal k ks at j e r p l = absurd (let past = count_below-upto k ks at j r p (rw e refl) in omega arith)
below_before_count Greater k ks at j e r p l = absurd (let past = count_below-upto k ks at j r p (rw e refl) in omega arith)

-- exactly the keys below k have places below the count
pub below_iff_before_count : (k : List ℕ) (ks : List (List ℕ)) (at : ℕ) (j : List ℕ) → AreRisingKeys ks → slice_get ks at ≡ Some j → ((order j k ≡ Less) ↔ (at < count_below k ks))
below_iff_before_count k ks at j r p = (count_below-after k ks at j r p, below_before_count (order j k) k ks at j refl r p)

module _ (k : List ℕ) (ks : List (List ℕ)) where
  -- if all keys before a place are below k, the count reaches the place
  count_below-reaches : (at : ℕ) → AreRisingKeys ks → at ≤ length ks → AreBelowBefore k ks at → at ≤ count_below k ks
  count_below-reaches zero r w b = omega arith
  count_below-reaches (suc m) r w b =
      let j : List ℕ = slice_index_or ks m [] in
      let last : slice_get ks m ≡ Some j = slice_get-get_or ks m [] (omega arith) in
      omega (arith, count_below-after k ks m j r last (b m j (omega arith) last))

  -- if all keys from a place on are above k, the count ends there
  count_below-ends : (at : ℕ) → AreRisingKeys ks → AreAboveFrom k ks at → (at < length ks) ⊎ (length ks ≤ at) → count_below k ks ≤ at
  count_below-ends at r a (inl l) =
      let j : List ℕ = slice_index_or ks at [] in
      let here : slice_get ks at ≡ Some j = slice_get-get_or ks at [] l in
      let above : order k j ≡ Less = a at j (omega arith) here in
      count_below-upto k ks at j r here (rw (flipped_less k j above) refl)
  count_below-ends at r a (inr l) = omega (arith, count_below-le-length k ks)

  -- the place of a key is the number of keys below it
  pub count_below-there : (at : ℕ) → AreRisingKeys ks → slice_get ks at ≡ Some k → count_below k ks ≡ at
  count_below-there at r p =
      let within = slice_get_within ks at k p in
      let no_more = count_below-upto k ks at k r p (rw order_itself refl) in
      let no_fewer = count_below-reaches at r (omega arith) (λ m j l q. rising-by_place ks m at j k r q p l) in
      omega arith

  -- the place where a key would be inserted is the number of keys below it
  pub count_below-goes_to : (at : ℕ) → AreRisingKeys ks → KeyGoesTo k ks at → count_below k ks ≡ at
  count_below-goes_to at r g =
      let no_fewer = count_below-reaches at r g.within g.below in
      let no_more = count_below-ends at r g.above (cases_lt at (length ks)) in
      omega arith

  -- ---- a step of a search

  -- up to a key that is below k, all keys are
  pub below-through : (at : ℕ) (j : List ℕ) → AreRisingKeys ks → slice_get ks at ≡ Some j → order j k ≡ Less → AreBelowBefore k ks (at + 1)
  below-through at j r p h = λ m i l q.
      elim (rising-or_same ks m at i j r q p (omega arith)) [ inl b ↦ total.trans i j k b h | inr e ↦ rw e h ]

  -- from a key that is above k on, all keys are
  pub above-onward : (at : ℕ) (j : List ℕ) → AreRisingKeys ks → slice_get ks at ≡ Some j → order k j ≡ Less → AreAboveFrom k ks at
  above-onward at j r p h = λ m i l q.
      elim (rising-or_same ks at m j i r p q l) [ inl b ↦ total.trans k j i h b | inr e ↦ rw (← e) h ]

-- ---- what entries have at a key

module _ {V : Type 0} where
  pub pair_at : (es : List (List ℕ × V)) (at : ℕ) (k : List ℕ) (v : V) → slice_get (keys_of es) at ≡ Some k → slice_get (values_of es) at ≡ Some v → slice_get es at ≡ Some (k, v)
  pair_at [] at k v p q = absurd (cc)
  pair_at (e ∷ es) zero k v p q =
      let key : e.0 ≡ k = cc in
      let value : e.1 ≡ v = cc in
      ap (λ (j : List ℕ). Some (j, e.1)) key ∙ ap (λ (w : V). Some (k, w)) value
  pair_at (e ∷ es) (suc at) k v p q = pair_at es at k v p q

  -- the value at the place of a key is what the entries have at the key
  pub value_at-there : (k : List ℕ) (v : V) (es : List (List ℕ × V)) (at : ℕ) → IsRising es → slice_get (keys_of es) at ≡ Some k → slice_get (values_of es) at ≡ Some v → value_at k es ≡ Some v
  value_at-there k v es at r p q =
      lookup_from_place alike es at k v (IsDistinct-from_sorted order (keys_of es) r) (pair_at es at k v p q)

  -- so a search that meets a key has found that the entries have it
  pub is_there-place : (k : List ℕ) (es : List (List ℕ × V)) (at : ℕ) → slice_get (keys_of es) at ≡ Some k → is_some (value_at k es) ≡ true
  is_there-place k es at p =
      is_some-lookup (λ j. is_eq (order k j)) es ∙ any_passes_from_place (λ j. is_eq (order k j)) (keys_of es) at k p (is_itself k)

  pub key_at : (es : List (List ℕ × V)) (at : ℕ) (e : List ℕ × V) → slice_get es at ≡ Some e → slice_get (keys_of es) at ≡ Some e.0
  key_at es at e p = rw (slice_get-map, p) refl

  -- if there is a key at a place, there is an entry
  pub within-place : (k : List ℕ) (es : List (List ℕ × V)) (at : ℕ) → slice_get (keys_of es) at ≡ Some k → at < length es
  within-place k es at h =
      let within = slice_get_within (keys_of es) at k h in
      let long = length-map es (λ (e : List ℕ × V). e.0) in
      omega (arith, within, long)

  -- the entries have nothing at a key that would be inserted at a place
  pub value_at-goes_to : (k : List ℕ) (es : List (List ℕ × V)) (at : ℕ) → IsRising es → KeyGoesTo k (keys_of es) at → value_at k es ≡ None
  value_at-goes_to k es at r g =
      lookup_at_gap total k es at r
      (λ m e l p. flipped_less e.0 k (g.below m e.0 l (key_at es m e p)))
      (λ e p. g.above at e.0 (omega arith) (key_at es at e p))
