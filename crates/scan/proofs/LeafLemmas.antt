-- Lemmas on an upward iteration over the pairs of one leaf.
use Rattle.std.specs.Prelude.{◌≡◌, ℕ, Bool, true, false, not, cond, List, [], ◌∷◌, Option, Some, None}
use Rattle.std.proofs.Common.{refl, sym, ap, ◌∙◌, subst, Ordering, Less, Equal, Greater}
use Rattle.std.specs.Ordering.{is_lt, is_eq}
use Rattle.std.specs.List.Sorted.{IsStrictlySortedBy}
use Rattle.std.specs.Map.{keys_of}
use Rattle.keys.specs.Order.{order, IsRising}
use Rattle.keys.specs.OrderedMap.{value_at}
use Rattle.keys.specs.Range.{is_below}
use Rattle.keys.proofs.Basics.{less_by}
use Rattle.keys.proofs.MapLemmas.{total, passes_same, order_itself, IsBelowAll, below_all}
use Rattle.keys.proofs.RangeLemmas.{all_below}
use Rattle.delta_chain.specs.Layers.{Layers, holds, entries_of, IsInOrder}
use Rattle.delta_chain.proofs.LayerLemmas.{rising-entries_of, value_at-entries_of}
use Rattle.page_search.specs.Above.{above}
use Rattle.page_search.specs.Floor.{floor}
use Rattle.page_search.proofs.FloorLemmas.{floor-nearest}
use Rattle.scan.specs.Leaf.{from, pairs_after, left_after}

-- ---- keys

apart_by : (o : Ordering) (k j : List ℕ) → order k j ≡ o → is_eq o ≡ false → not (is_below j k) ≡ is_lt o
apart_by Less k j e n = rw (total.antisymm j k, e) refl
apart_by Equal k j e n = absurd (cc)
apart_by Greater k j e n = rw (total.antisymm j k, e) refl

pub itself : (k : List ℕ) → is_below k k ≡ false
itself k = rw (order_itself k) refl

pub above_not_below : (k j : List ℕ) → order k j ≡ Less → is_below j k ≡ false
above_not_below k j l = rw (total.antisymm j k, l) refl

pub passed_by : (b : Bool) (g k e : List ℕ) → is_below g e ≡ b → is_below k g ≡ true → is_below k e ≡ false → b ≡ false
passed_by true g k e b p n = absurd (let t : is_below k e ≡ true = rw (total.trans k g e (less_by (order k g) p) (less_by (order g e) b)) refl in cc)
passed_by false g k e b p n = refl

module _ {V : Type 0} where
  -- ---- pairs after a key

  pub pairs_after-all : (k : List ℕ) (es : List (List ℕ × V)) → IsBelowAll k (keys_of es) → pairs_after k es ≡ es
  pairs_after-all k [] a = refl
  pairs_after-all k (e ∷ es) a = rw a.0 (ap (λ (x : List (List ℕ × V)). e ∷ x) (pairs_after-all k es a.1))

  pub from-all : (k : List ℕ) (es : List (List ℕ × V)) → IsBelowAll k (keys_of es) → from k es ≡ es
  from-all k [] a = refl
  from-all k (e ∷ es) a = rw (above_not_below k e.0 a.0) (ap (λ (x : List (List ℕ × V)). e ∷ x) (from-all k es a.1))

  pub pairs_after-skips : (k : List ℕ) (e : List ℕ × V) (es : List (List ℕ × V)) → is_below k e.0 ≡ false → pairs_after k (e ∷ es) ≡ pairs_after k es
  pairs_after-skips k e es h = rw h refl

  found_by : (b : Bool) (k : List ℕ) (e g : List ℕ × V) (o : Option (List ℕ × V)) → is_below k e.0 ≡ b → (o ≡ Some g → is_below k g.0 ≡ true) → cond b (Some e) o ≡ Some g → is_below k g.0 ≡ true
  found_by true k e g o b ih h = let same : e ≡ g = cc in rw (← same) b
  found_by false k e g o b ih h = ih h

  found_above : (k : List ℕ) (es : List (List ℕ × V)) (g : List ℕ × V) → above k es ≡ Some g → is_below k g.0 ≡ true
  found_above k [] g h = absurd (cc)
  found_above k (e ∷ es) g h = found_by (is_below k e.0) k e g (above k es) refl (λ p. found_above k es g p) h

  rest_by : (o : Option (List ℕ × V)) (e : List ℕ × V) (es : List (List ℕ × V)) → ((g : List ℕ × V) → o ≡ Some g → is_below g.0 e.0 ≡ false) → left_after o es ≡ left_after o (e ∷ es)
  rest_by None e es n = refl
  rest_by (Some g) e es n = ap (λ (x : List (List ℕ × V)). g ∷ x) (sym (pairs_after-skips g.0 e es (n g refl)))

  step_by : (b : Bool) (k : List ℕ) (e : List ℕ × V) (es : List (List ℕ × V)) → is_below k e.0 ≡ b → IsRising (e ∷ es) → pairs_after k es ≡ left_after (above k es) es
      → pairs_after k (e ∷ es) ≡ left_after (cond b (Some e) (above k es)) (e ∷ es)
  unfolding IsStrictlySortedBy
  step_by true k e es b r ih =
      let l : order k e.0 ≡ Less = less_by (order k e.0) b in
      pairs_after-all k (e ∷ es) (l, below_all k e.0 (keys_of es) l r.0)
      ∙ ap (λ (x : List (List ℕ × V)). e ∷ x) (sym (pairs_after-skips e.0 e es (itself e.0) ∙ pairs_after-all e.0 es r.0))
  step_by false k e es b r ih =
      pairs_after-skips k e es b ∙ ih ∙ rest_by (above k es) e es (λ g p. passed_by (is_below g.0 e.0) g.0 k e.0 refl (found_above k es g p) b)

  -- the pairs after k are the first pair after k, and the pairs after that pair
  pub pairs_after-step : (k : List ℕ) (es : List (List ℕ × V)) → IsRising es → pairs_after k es ≡ left_after (above k es) es
  unfolding IsStrictlySortedBy
  pairs_after-step k [] r = refl
  pairs_after-step k (e ∷ es) r = step_by (is_below k e.0) k e es refl r (pairs_after-step k es r.1)

  -- ---- where an iteration begins

  none_by : (b : Bool) (e : List ℕ × V) (o : Option V) → cond b (Some e.1) o ≡ None → (b ≡ false) × (o ≡ None)
  none_by true e o h = absurd (cc)
  none_by false e o h = (refl, h)

  -- if the key isn't there, the pairs at or above it are those after it
  pub from-none : (k : List ℕ) (es : List (List ℕ × V)) → value_at k es ≡ None → from k es ≡ pairs_after k es
  from-none k [] h = refl
  from-none k (e ∷ es) h =
      let n = none_by (is_eq (order k e.0)) e (value_at k es) h in
      rw (apart_by (order k e.0) k e.0 refl n.0) (ap (λ (x : List (List ℕ × V)). cond (is_below k e.0) (e ∷ x) x) (from-none k es n.1))

  there_by : (b : Bool) (k : List ℕ) (v : V) (e : List ℕ × V) (es : List (List ℕ × V)) → is_eq (order k e.0) ≡ b → IsRising (e ∷ es) → cond b (Some e.1) (value_at k es) ≡ Some v
      → (value_at k es ≡ Some v → from k es ≡ (k, v) ∷ pairs_after k es) → from k (e ∷ es) ≡ (k, v) ∷ pairs_after k (e ∷ es)
  unfolding IsStrictlySortedBy
  there_by true k v e es b r h ih =
      let same : k ≡ e.0 = passes_same k e.0 b in
      let value : e.1 ≡ v = cc in
      let here : from e.0 (e ∷ es) ≡ (e.0, e.1) ∷ pairs_after e.0 (e ∷ es) =
      rw (itself e.0) (ap (λ (x : List (List ℕ × V)). e ∷ x) (from-all e.0 es r.0 ∙ sym (pairs_after-all e.0 es r.0))) in
      rw (← value) (subst (λ (j : List ℕ). from j (e ∷ es) ≡ (j, e.1) ∷ pairs_after j (e ∷ es)) (sym same) here)
  there_by false k v e es b r h ih =
      let l : order e.0 k ≡ Less = all_below k es v e.0 r.0 h in
      rw (l, above_not_below e.0 k l) (ih h)

  -- if it is there, they are its pair and the pairs after it
  pub from-there : (k : List ℕ) (v : V) (es : List (List ℕ × V)) → IsRising es → value_at k es ≡ Some v → from k es ≡ (k, v) ∷ pairs_after k es
  unfolding IsStrictlySortedBy
  from-there k v [] r h = absurd (cc)
  from-there k v (e ∷ es) r h = there_by (is_eq (order k e.0)) k v e es refl r h (λ p. from-there k v es r.1 p)

  floor-there : (k : List ℕ) (v : V) (es : List (List ℕ × V)) → IsRising es → value_at k es ≡ Some v → Some (k, v) ≡ floor k es
  floor-there k v es r h =
      floor-nearest k es (Some (k, v)) r (record { on = rw (order_itself k) refl; has = h; none_nearer = λ i o n. absurd (let wrong : not (is_lt Less) ≡ true = rw n at o in cc) })

  module _ (k : List ℕ) (p : Layers V) (r : IsInOrder p) where
    -- if the key is there, its pair is the last pair at or below it
    pub start-some : (v : V) (o : Option (List ℕ × V)) → Some v ≡ holds p k → o ≡ floor k (entries_of p) → left_after o (entries_of p) ≡ from k (entries_of p)
    start-some v o h f =
        let there : value_at k (entries_of p) ≡ Some v = value_at-entries_of p k r ∙ sym h in
        let rising = rising-entries_of p r in
        ap (λ (x : Option (List ℕ × V)). left_after x (entries_of p)) (f ∙ sym (floor-there k v (entries_of p) rising there)) ∙ sym (from-there k v (entries_of p) rising there)

    pub start-none : (o : Option (List ℕ × V)) → None ≡ holds p k → left_after o (entries_of p) ≡ pairs_after k (entries_of p) → left_after o (entries_of p) ≡ from k (entries_of p)
    start-none o h a = a ∙ sym (from-none k (entries_of p) (value_at-entries_of p k r ∙ sym h))

    -- the pairs after the key are the first of them, and the others
    pub first-pairs_after : (o : Option (List ℕ × V)) → o ≡ above k (entries_of p) → left_after o (entries_of p) ≡ pairs_after k (entries_of p)
    first-pairs_after o a = ap (λ (x : Option (List ℕ × V)). left_after x (entries_of p)) a ∙ sym (pairs_after-step k (entries_of p) (rising-entries_of p r))
