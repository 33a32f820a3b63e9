-- The place of a key among rising entries, and the effect of setting an item there.
use Rattle.std.specs.Prelude.{◌≡◌, ℕ, zero, suc, ◌+◌, ◌<◌, ◌≤◌, List, [], ◌∷◌, length, set, slice_get, slice_index_or, true, Some, None, Ok, Err, Result, MatchResult}
use Rattle.std.proofs.Common.{refl, sym, ap, ◌∙◌, arith, Ordering, Less, Equal, Greater}
use Rattle.std.specs.List.{insert}
use Rattle.std.specs.List.Sorted.{IsNonDecreasingBy, IsBinarySearchResult, IsSearchInRange}
use Rattle.std.specs.Map.{keys_of, values_of}
use Rattle.std.specs.Ordering.{ordering_index}
use Rattle.std.proofs.lemmas.Map.Entries.{length-keys_of}
use Rattle.std.proofs.lemmas.Map.Keys.{sorted_head, sorted_tail}
use Rattle.std.proofs.lemmas.Option.{slice_get-get_or}
use Rattle.keys.specs.Order.{order, IsRising}
use Rattle.keys.specs.OrderedMap.{value_at, with_pair}
use Rattle.keys.proofs.MapLemmas.{IsBelowAll, total, same_key, order_itself, flipped_less, flipped_greater}
use Rattle.delta_chain.specs.Building.{goes_last}
use Rattle.delta_chain.proofs.Rising.{goes_last_first, goes_last_rest}

pub below_at : (j : List ℕ) (ks : List (List ℕ)) (at : ℕ) (k : List ℕ) → IsBelowAll j ks → slice_get ks at ≡ Some k → order j k ≡ Less
below_at j [] at k a h = absurd (cc)
below_at j (i ∷ ks) zero k a h = let s : i ≡ k = cc in rw (← s) a.0
below_at j (i ∷ ks) (suc at) k a h = below_at j ks at k a.1 h

-- of two keys, the lower one compares no higher to a third key
no_higher_by : (o p : Ordering) (i j k : List ℕ) → order i k ≡ o → order j k ≡ p → order i j ≡ Less → ordering_index o ≤ ordering_index p
no_higher_by Less p i j k a b l = omega arith
no_higher_by Equal Less i j k a b l = absurd (let below : order i k ≡ Less = total.trans i j k l b in let wrong = sym a ∙ below in cc)
no_higher_by Equal Equal i j k a b l = omega arith
no_higher_by Equal Greater i j k a b l = omega arith
no_higher_by Greater Less i j k a b l = absurd (let below : order i k ≡ Less = total.trans i j k l b in let wrong = sym a ∙ below in cc)
no_higher_by Greater Equal i j k a b l = absurd (let s : j ≡ k = same_key j k b in let below : order i k ≡ Less = rw s at l in let wrong = sym a ∙ below in cc)
no_higher_by Greater Greater i j k a b l = omega arith

-- a comparison that is no higher than Less is Less, and one that is no lower than Greater is Greater
less_by_index : (o : Ordering) → ordering_index o ≤ ordering_index Less → o ≡ Less
less_by_index Less h = refl
less_by_index Equal h = absurd (omega (arith, h))
less_by_index Greater h = absurd (omega (arith, h))

greater_by_index : (o : Ordering) → ordering_index Greater ≤ ordering_index o → o ≡ Greater
greater_by_index Less h = absurd (omega (arith, h))
greater_by_index Equal h = absurd (omega (arith, h))
greater_by_index Greater h = refl

module _ {T : Type 0} where
  key_at : (es : List (List ℕ × T)) (at : ℕ) (d : List ℕ × T) → at < length es → slice_get (keys_of es) at ≡ Some (slice_index_or es at d).0
  key_at [] at d l = absurd (omega arith)
  key_at (e ∷ es) zero d l = refl
  key_at (e ∷ es) (suc at) d l = let m : at < length es = omega arith in key_at es at d m

  -- so the comparisons with a key rise along the entries, as a binary search requires
  comparisons_rise : (es : List (List ℕ × T)) (k : List ℕ) → IsRising es → IsNonDecreasingBy (λ (e : List ℕ × T). ordering_index (order e.0 k)) es
  comparisons_rise [] k r i j d le lt = absurd (omega arith)
  comparisons_rise (e ∷ es) k r zero zero d le lt = omega arith
  comparisons_rise (e ∷ es) k r zero (suc j) d le lt =
      let m : j < length es = omega arith in
      let f = slice_index_or es j d in
      no_higher_by (order e.0 k) (order f.0 k) e.0 f.0 k refl refl (below_at e.0 (keys_of es) j f.0 (sorted_head order e.0 (keys_of es) r) (key_at es j d m))
  comparisons_rise (e ∷ es) k r (suc i) zero d le lt = absurd (omega arith)
  comparisons_rise (e ∷ es) k r (suc i) (suc j) d le lt = comparisons_rise es k (sorted_tail order e.0 (keys_of es) r) i j d (omega arith) (omega arith)

  -- ---- a key that is there

  pub some_key : (es : List (List ℕ × T)) (at : ℕ) → at < length es → slice_get (keys_of es) at ≡ Some (slice_index_or (keys_of es) at [])
  some_key es at l = slice_get-get_or (keys_of es) at [] (omega (arith, length-keys_of es))

  key_found : (es : List (List ℕ × T)) (at : ℕ) (k : List ℕ) → at < length es → ((d : List ℕ × T) → order (slice_index_or es at d).0 k ≡ Equal) → slice_get (keys_of es) at ≡ Some k
  key_found [] at k l h = absurd (omega arith)
  key_found (e ∷ es) zero k l h = ap Some (same_key e.0 k (h e))
  key_found (e ∷ es) (suc at) k l h = let m : at < length es = omega arith in key_found es at k m h

  -- it is above all before it
  pub first_below : (e : List ℕ × T) (es : List (List ℕ × T)) (at : ℕ) (k : List ℕ) → IsRising (e ∷ es) → slice_get (keys_of es) at ≡ Some k → order k e.0 ≡ Greater
  first_below e es at k r h = flipped_less e.0 k (below_at e.0 (keys_of es) at k (sorted_head order e.0 (keys_of es) r) h)

  pub value_at-found : (es : List (List ℕ × T)) (at : ℕ) (k : List ℕ) → IsRising es → slice_get (keys_of es) at ≡ Some k → value_at k es ≡ slice_get (values_of es) at
  value_at-found [] at k r h = absurd (cc)
  value_at-found (e ∷ es) zero k r h = let s : e.0 ≡ k = cc in rw (← s, order_itself) refl
  value_at-found (e ∷ es) (suc at) k r h = rw (first_below e es at k r h) (value_at-found es at k (sorted_tail order e.0 (keys_of es) r) h)

  pub with_pair-found : (es : List (List ℕ × T)) (at : ℕ) (k : List ℕ) (v : T) → IsRising es → slice_get (keys_of es) at ≡ Some k → with_pair es k v ≡ set es at (k, v)
  with_pair-found [] at k v r h = absurd (cc)
  with_pair-found (e ∷ es) zero k v r h = let s : e.0 ≡ k = cc in rw (← s, order_itself) refl
  with_pair-found (e ∷ es) (suc at) k v r h = rw (first_below e es at k r h) (ap (λ (m : List (List ℕ × T)). e ∷ m) (with_pair-found es at k v (sorted_tail order e.0 (keys_of es) r) h))

  -- ---- a key that is not there, with the place where it goes

  abbrev pub BelowBefore : List (List ℕ × T) → ℕ → List ℕ → Type 0
  BelowBefore es at k = (m : ℕ) (d : List ℕ × T) → 0 ≤ m → m < at → order (slice_index_or es m d).0 k ≡ Less

  abbrev pub AboveFrom : List (List ℕ × T) → ℕ → List ℕ → Type 0
  AboveFrom es at k = (m : ℕ) (d : List ℕ × T) → at ≤ m → m < length es → order (slice_index_or es m d).0 k ≡ Greater

  pub value_at-missing : (es : List (List ℕ × T)) (at : ℕ) (k : List ℕ) → BelowBefore es at k → AboveFrom es at k → value_at k es ≡ None
  value_at-missing [] at k b a = refl
  value_at-missing (e ∷ es) zero k b a =
      rw (flipped_greater e.0 k (a 0 e (omega arith) (omega arith))) (value_at-missing es zero k (λ m d z l. absurd (omega arith)) (λ m d f l. a (suc m) d (omega arith) (omega arith)))
  value_at-missing (e ∷ es) (suc at) k b a =
      rw (flipped_less e.0 k (b 0 e (omega arith) (omega arith))) (value_at-missing es at k (λ m d z l. b (suc m) d (omega arith) (omega arith)) (λ m d f l. a (suc m) d (omega arith) (omega arith)))

  -- ---- a step of a binary search, by how the key at a place compares to the one looked for

  key_there_or : (es : List (List ℕ × T)) (at : ℕ) (j : List ℕ) (d : List ℕ × T) → slice_get (keys_of es) at ≡ Some j → (at < length es) × ((slice_index_or es at d).0 ≡ j)
  key_there_or [] at j d h = absurd (cc)
  key_there_or (e ∷ es) zero j d h = (omega arith, cc)
  key_there_or (e ∷ es) (suc at) j d h = let rest = key_there_or es at j d h in (omega (arith, rest.0), rest.1)

  -- if it is below, all up to it are
  pub below_through : (es : List (List ℕ × T)) (at : ℕ) (k j : List ℕ) → IsRising es → slice_get (keys_of es) at ≡ Some j → order j k ≡ Less → BelowBefore es (at + 1) k
  below_through es at k j r h l m d z n =
      let there = key_there_or es at j d h in
      let here : order (slice_index_or es at d).0 k ≡ Less = rw there.1 l in
      let up = comparisons_rise es k r m at d (omega arith) there.0 in
      less_by_index (order (slice_index_or es m d).0 k) (rw here at up)

  -- if it is above, all from it on are
  pub above_onward : (es : List (List ℕ × T)) (at : ℕ) (k j : List ℕ) → IsRising es → slice_get (keys_of es) at ≡ Some j → order j k ≡ Greater → AboveFrom es at k
  above_onward es at k j r h l m d f n =
      let there = key_there_or es at j d h in
      let here : order (slice_index_or es at d).0 k ≡ Greater = rw there.1 l in
      let up = comparisons_rise es k r at m d f n in
      greater_by_index (order (slice_index_or es m d).0 k) (rw here at up)

  -- if it is the same, it is the one looked for
  pub key_there : (es : List (List ℕ × T)) (at : ℕ) (k j : List ℕ) → slice_get (keys_of es) at ≡ Some j → order j k ≡ Equal → slice_get (keys_of es) at ≡ Some k
  key_there es at k j h l = h ∙ ap (λ (x : List ℕ). Some x) (same_key j k l)

  pub with_pair-missing : (es : List (List ℕ × T)) (at : ℕ) (k : List ℕ) (v : T) → at ≤ length es → BelowBefore es at k → AboveFrom es at k → with_pair es k v ≡ insert es at (k, v)
  with_pair-missing [] zero k v w b a = refl
  with_pair-missing [] (suc at) k v w b a = absurd (omega arith)
  with_pair-missing (e ∷ es) zero k v w b a = rw (flipped_greater e.0 k (a 0 e (omega arith) (omega arith))) refl
  with_pair-missing (e ∷ es) (suc at) k v w b a =
      let n : at ≤ length es = omega arith in
      rw (flipped_less e.0 k (b 0 e (omega arith) (omega arith))) (ap (λ (m : List (List ℕ × T)). e ∷ m) (with_pair-missing es at k v n (λ m d z l. b (suc m) d (omega arith) (omega arith)) (λ m d f l. a (suc m) d (omega arith) (omega arith))))

  -- ---- the result of a binary search

  abbrev pub Answer : List (List ℕ × T) → List ℕ → Result ℕ ℕ → Type 0
  Answer es k r =
      MatchResult r
      (λ at. (at < length es) × (slice_get (keys_of es) at ≡ Some k) × (value_at k es ≡ slice_get (values_of es) at))
      (λ at. (at ≤ length es) × (value_at k es ≡ None) × ((v : T) → with_pair es k v ≡ insert es at (k, v)))

  pub searched : (es : List (List ℕ × T)) (k : List ℕ) (r : Result ℕ ℕ) → IsRising es → IsSearchInRange r (length es) → IsBinarySearchResult (λ (e : List ℕ × T). order e.0 k) es r → Answer es k r
  searched es k (Ok at) r l h = let f = key_found es at k l h in (l, f, value_at-found es at k r f)
  searched es k (Err at) r l h =
      let p = h (comparisons_rise es k r) in
      (l, value_at-missing es at k p.0 p.1, λ v. with_pair-missing es at k v l p.0 p.1)

  -- a key above the last one is above all, and goes after them
  all_below : (es : List (List ℕ × T)) (k : List ℕ) → IsRising es → goes_last k es ≡ true → BelowBefore es (length es) k
  all_below [] k r h m d z l = absurd (omega arith)
  all_below (e ∷ es) k r h zero d z l = goes_last_first e es k r h
  all_below (e ∷ es) k r h (suc m) d z l = all_below es k (sorted_tail order e.0 (keys_of es) r) (goes_last_rest e es k h) m d (omega arith) (omega arith)

  pub above_all : (es : List (List ℕ × T)) (k : List ℕ) (at : ℕ) → IsRising es → goes_last k es ≡ true → at ≡ length es → Answer es k (Err at)
  above_all es k at r h e =
      let below : BelowBefore es at k = rw e (all_below es k r h) in
      let none : AboveFrom es at k = λ m d f l. absurd (omega arith) in
      (omega arith, value_at-missing es at k below none, λ v. with_pair-missing es at k v (omega arith) below none)
