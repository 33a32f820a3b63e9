-- Lemmas on the last pair of rising pairs, and on the elements that pass a test.
use Rattle.std.specs.Prelude.{◌≡◌, ℕ, zero, suc, ◌+◌, Bool, true, false, not, cond, min, List, [], ◌∷◌, ◌++◌, length, take, slice_get, Option, Some, None}
use Rattle.std.proofs.Common.{refl, sym, ap, ◌∙◌, subst, arith, append-nil, Ordering, Less, Equal, Greater}
use Rattle.std.specs.Ordering.{is_lt}
use Rattle.std.specs.List.{AllByRecursion, filter}
use Rattle.std.specs.List.Sorted.{IsStrictlySortedBy}
use Rattle.std.specs.Map.{keys_of, values_of}
use Rattle.std.proofs.lemmas.List.{take_min}
use Rattle.std.proofs.lemmas.List.Elements.{filter-append}
use Rattle.keys.specs.Order.{order, IsRising}
use Rattle.keys.specs.OrderedMap.{value_at}
use Rattle.keys.specs.Range.{is_below, is_before}
use Rattle.keys.proofs.Basics.{less_by}
use Rattle.keys.proofs.MapLemmas.{total, IsBelowAll, same_key, order_itself, flipped_less, flipped_greater}
use Rattle.index_page.proofs.ListLemmas.{all_keys_apart}
use Rattle.scan.specs.Leaf.{from, pairs_after}
use Rattle.scan.proofs.LeafLemmas.{itself, above_not_below, passed_by, from-there}

-- the pairs before an end
abbrev pub before : {V : Type 0} → Option (List ℕ) → List (List ℕ × V) → List (List ℕ × V)
before hi es = filter (λ e. is_before hi e.0) es

-- ---- the elements that pass a test

pub each : {X : Type 0} {P Q : X → Type 0} → ((x : X) → P x → Q x) → (xs : List X) → AllByRecursion P xs → AllByRecursion Q xs
each f [] a = tt
each f (x ∷ xs) a = (f x a.0, each f xs a.1)

module _ {X : Type 0} (p : X → Bool) where
  none_by : (b : Bool) (x : X) (xs : List X) → p x ≡ b → (filter p xs ≡ [] → AllByRecursion (λ y. p y ≡ false) xs) → cond b (x ∷ filter p xs) (filter p xs) ≡ [] → AllByRecursion (λ y. p y ≡ false) (x ∷ xs)
  none_by true x xs b ih h = absurd (cc)
  none_by false x xs b ih h = (b, ih h)

  pub none_passes : (xs : List X) → filter p xs ≡ [] → AllByRecursion (λ x. p x ≡ false) xs
  none_passes [] h = tt
  none_passes (x ∷ xs) h = none_by (p x) x xs refl (λ e. none_passes xs e) h

  pub passes_none : (xs : List X) → AllByRecursion (λ x. p x ≡ false) xs → filter p xs ≡ []
  passes_none [] a = refl
  passes_none (x ∷ xs) a = rw a.0 (passes_none xs a.1)

  pub passes_alike : (q : X → Bool) (xs : List X) → AllByRecursion (λ x. p x ≡ q x) xs → filter p xs ≡ filter q xs
  passes_alike q [] a = refl
  passes_alike q (x ∷ xs) a =
      ap (λ (b : Bool). cond b (x ∷ filter p xs) (filter p xs)) a.0 ∙ ap (λ (ys : List X). cond (q x) (x ∷ ys) ys) (passes_alike q xs a.1)

  pub passes_all : (xs : List X) → AllByRecursion (λ x. p x ≡ true) xs → filter p xs ≡ xs
  passes_all [] a = refl
  passes_all (x ∷ xs) a = rw a.0 (ap (λ (ys : List X). x ∷ ys) (passes_all xs a.1))

-- ---- keys

-- if j isn't above k, and e is above k, then e is above j
pub above_through : (o : Ordering) (j k e : List ℕ) → order j k ≡ o → is_below k j ≡ false → is_below k e ≡ true → is_below j e ≡ true
above_through Less j k e o n l = rw (total.trans j k e o (less_by (order k e) l)) refl
above_through Equal j k e o n l = subst (λ (i : List ℕ). is_below i e ≡ true) (sym (same_key j k o)) l
above_through Greater j k e o n l = absurd (let t : is_below k j ≡ true = rw (flipped_greater j k o) refl in cc)

not_before : (hi : Option (List ℕ)) (i j : List ℕ) → is_before hi i ≡ false → order i j ≡ Less → is_before hi j ≡ false
not_before None i j n l = absurd (cc)
not_before (Some end) i j n l = passed_by (is_below j end) j i end refl (rw l refl) n

module _ {V : Type 0} where
  -- ---- a key above which there is none

  -- ---- a last pair

  pub last_above : (xs : List (List ℕ × V)) (k : List ℕ) (v : V) → IsRising (xs ++ (k, v) ∷ []) → AllByRecursion (λ e. order e.0 k ≡ Less) xs
  unfolding IsStrictlySortedBy
  last_above [] k v r = tt
  last_above (x ∷ xs) k v r = ((all_keys_apart (λ j. order x.0 j ≡ Less) xs ((k, v) ∷ []) r.0).1.0, last_above xs k v r.1)

  pub before_last : (xs : List (List ℕ × V)) (k : List ℕ) (v : V) → IsRising (xs ++ (k, v) ∷ []) → before (Some k) (xs ++ (k, v) ∷ []) ≡ xs
  before_last xs k v r =
      let below : List ℕ × V → Bool = λ e. is_below e.0 k in
      filter-append below xs ((k, v) ∷ [])
      ∙ ap (λ (ys : List (List ℕ × V)). ys ++ before (Some k) ((k, v) ∷ [])) (passes_all below xs (each (λ (e : List ℕ × V) (l : order e.0 k ≡ Less). ap is_lt l) xs (last_above xs k v r)))
      ∙ ap (λ (b : Bool). xs ++ cond b ((k, v) ∷ []) []) (itself k)
      ∙ append-nil xs

  pub none_above_last : (xs : List (List ℕ × V)) (k : List ℕ) (v : V) → IsRising (xs ++ (k, v) ∷ []) → pairs_after k (xs ++ (k, v) ∷ []) ≡ []
  none_above_last xs k v r =
      let above : List ℕ × V → Bool = λ e. is_below k e.0 in
      filter-append above xs ((k, v) ∷ [])
      ∙ ap (λ (ys : List (List ℕ × V)). ys ++ pairs_after k ((k, v) ∷ [])) (passes_none above xs (each (λ (e : List ℕ × V) (l : order e.0 k ≡ Less). above_not_below e.0 k l) xs (last_above xs k v r)))
      ∙ ap (λ (b : Bool). cond b ((k, v) ∷ []) []) (itself k)

  value_at_end : (xs : List (List ℕ × V)) (k : List ℕ) (v : V) → AllByRecursion (λ e. order e.0 k ≡ Less) xs → value_at k (xs ++ (k, v) ∷ []) ≡ Some v
  value_at_end [] k v a = rw (order_itself k) refl
  value_at_end (x ∷ xs) k v a = rw (flipped_less x.0 k a.0) (value_at_end xs k v a.1)

  pub value_at_last : (xs : List (List ℕ × V)) (k : List ℕ) (v : V) → IsRising (xs ++ (k, v) ∷ []) → value_at k (xs ++ (k, v) ∷ []) ≡ Some v
  value_at_last xs k v r = value_at_end xs k v (last_above xs k v r)

  -- the pair with the greatest key is the only pair at or above its key
  pub from_greatest : (k : List ℕ) (v : V) (es : List (List ℕ × V)) → IsRising es → value_at k es ≡ Some v → pairs_after k es ≡ [] → from k es ≡ (k, v) ∷ []
  from_greatest k v es r h n = from-there k v es r h ∙ ap (λ (x : List (List ℕ × V)). (k, v) ∷ x) n

  -- ---- the pairs before an end

  pub none_before : (hi : Option (List ℕ)) (e : List ℕ) (es : List (List ℕ × V)) → is_before hi e ≡ false → IsBelowAll e (keys_of es) → AllByRecursion (λ f. is_before hi f.0 ≡ false) es
  none_before hi e [] n a = tt
  none_before hi e (f ∷ es) n a = (not_before hi e f.0 n a.0, none_before hi e es n a.1)

  abbrev pub Rest : Option (List ℕ) → List (List ℕ × V) → List (List ℕ × V)
  Rest hi es = filter (λ e. not (is_before hi e.0)) es

  parted_by : (b : Bool) (hi : Option (List ℕ)) (e : List ℕ × V) (es : List (List ℕ × V)) → (b ≡ false → before hi es ≡ []) → es ≡ before hi es ++ Rest hi es
      → e ∷ es ≡ cond b (e ∷ before hi es) (before hi es) ++ cond (not b) (e ∷ Rest hi es) (Rest hi es)
  parted_by true hi e es n ih = ap (λ (x : List (List ℕ × V)). e ∷ x) ih
  parted_by false hi e es n ih =
      ap (λ (x : List (List ℕ × V)). e ∷ x) (ih ∙ ap (λ (x : List (List ℕ × V)). x ++ Rest hi es) (n refl)) ∙ sym (ap (λ (x : List (List ℕ × V)). x ++ e ∷ Rest hi es) (n refl))

  -- rising pairs are those before an end, followed by the others
  pub parted : (hi : Option (List ℕ)) (es : List (List ℕ × V)) → IsRising es → es ≡ before hi es ++ Rest hi es
  unfolding IsStrictlySortedBy
  parted hi [] r = refl
  parted hi (e ∷ es) r = parted_by (is_before hi e.0) hi e es (λ n. passes_none (λ f. is_before hi f.0) es (none_before hi e.0 es n r.0)) (parted hi es r.1)

  -- ---- places

  pub one_more : (es : List (List ℕ × V)) (at : ℕ) (k : List ℕ) (v : V) → slice_get (keys_of es) at ≡ Some k → slice_get (values_of es) at ≡ Some v → take at es ++ (k, v) ∷ [] ≡ take (suc at) es
  one_more [] at k v h i = absurd (cc)
  one_more (e ∷ es) zero k v h i =
      let s : k ≡ e.0 = cc in
      let t : v ≡ e.1 = cc in
      let pair : List ℕ → V → List ℕ × V = λ a b. (a, b) in
      ap (λ (a : List ℕ). pair a v ∷ []) s ∙ ap (λ (b : V). pair e.0 b ∷ []) t
  one_more (e ∷ es) (suc at) k v h i = ap (λ (x : List (List ℕ × V)). e ∷ x) (one_more es at k v h i)

  -- the first pairs are those before the last of them, and that pair
  pub last_place : (es : List (List ℕ × V)) (count at : ℕ) (k : List ℕ) (v : V) → slice_get (keys_of es) at ≡ Some k → slice_get (values_of es) at ≡ Some v → at + 1 ≡ min count (length es) → take at es ++ (k, v) ∷ [] ≡ take count es
  last_place es count at k v h i e =
      let next : suc at ≡ min count (length es) = omega (arith, e) in
      one_more es at k v h i ∙ ap (λ (n : ℕ). take n es) next ∙ take_min count es

  pub no_place : (es : List (List ℕ × V)) (count : ℕ) → min count (length es) ≡ 0 → take count es ≡ []
  no_place es count e = sym (take_min count es) ∙ ap (λ (n : ℕ). take n es) e
