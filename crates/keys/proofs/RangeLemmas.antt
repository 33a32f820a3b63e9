-- Lemmas on the rows of a range, for the proofs of this crate and of those above it.
use Rattle.std.specs.Prelude.{◌≡◌, ◌⊎◌, ℕ, zero, suc, ◌+◌, ◌≤◌, Bool, true, false, not, cond, ◌&&◌, List, [], ◌∷◌, length, take, Option, Some, None}
use Rattle.std.proofs.Common.{refl, sym, ap, ◌∙◌, arith, Ordering, Less, Equal, Greater, inl, inr}
use Rattle.std.specs.Ordering.{is_eq}
use Rattle.std.specs.List.{AllByRecursion, filter}
use Rattle.std.specs.List.Sorted.{IsStrictlySortedBy}
use Rattle.std.specs.Map.{keys_of}
use Rattle.std.proofs.lemmas.List.{length-take}
use Rattle.std.proofs.lemmas.List.Filters.{length-filter_both}
use Rattle.std.proofs.lemmas.Map.Entries.{lookup-filter-keys}
use Rattle.keys.specs.Order.{order, IsRising}
use Rattle.keys.specs.OrderedMap.{value_at}
use Rattle.keys.specs.Range.{is_below, is_within, in_range, out_of_range, rows}
use Rattle.keys.proofs.Basics.{less_by}
use Rattle.keys.proofs.MapLemmas.{total, passes_same, same_key, IsBelowAll}

-- ---- keys

none_by : (b c : Bool) (lo hi k : List ℕ) → is_below k lo ≡ b → is_below k hi ≡ c → is_below lo hi ≡ false → (not b && c) ≡ false
none_by true c lo hi k p q h = refl
none_by false false lo hi k p q h = refl
none_by false true lo hi k p q h = absurd (wrong (order k lo) refl)
  where
    -- k isn't below lo and is below hi, so lo is below hi
    wrong : (o : Ordering) → order k lo ≡ o → ⊥
    wrong Less e = let t : is_below k lo ≡ true = rw e refl in cc
    wrong Equal e = let t : is_below lo hi ≡ true = rw (← same_key k lo e) q in cc
    wrong Greater e =
        let up : order lo k ≡ Less = rw (total.antisymm lo k, e) refl in
        let t : is_below lo hi ≡ true = rw (total.trans lo k hi up (less_by (order k hi) q)) refl in
        cc

module _ {V : Type 0} where
  -- ---- a part of a rising list rises

  all_by : (P : List ℕ → Type 0) (b : Bool) (e : List ℕ × V) (rest : List (List ℕ × V)) → P e.0 → AllByRecursion P (keys_of rest) → AllByRecursion P (keys_of (cond b (e ∷ rest) rest))
  all_by P true e rest p a = (p, a)
  all_by P false e rest p a = a

  pub all_keys-filtered : (P : List ℕ → Type 0) (passes : List ℕ × V → Bool) (es : List (List ℕ × V)) → AllByRecursion P (keys_of es) → AllByRecursion P (keys_of (filter passes es))
  all_keys-filtered P passes [] a = tt
  all_keys-filtered P passes (e ∷ es) a = all_by P (passes e) e (filter passes es) a.0 (all_keys-filtered P passes es a.1)

  rising_by : (b : Bool) (e : List ℕ × V) (rest : List (List ℕ × V)) → IsBelowAll e.0 (keys_of rest) → IsRising rest → IsRising (cond b (e ∷ rest) rest)
  unfolding IsStrictlySortedBy
  rising_by true e rest a r = (a, r)
  rising_by false e rest a r = r

  pub rising-filtered : (passes : List ℕ × V → Bool) (es : List (List ℕ × V)) → IsRising es → IsRising (filter passes es)
  unfolding IsStrictlySortedBy
  rising-filtered passes [] r = tt
  rising-filtered passes (e ∷ es) r = rising_by (passes e) e (filter passes es) (all_keys-filtered (λ j. order e.0 j ≡ Less) passes es r.0) (rising-filtered passes es r.1)

  all_keys-taken : (P : List ℕ → Type 0) (n : ℕ) (es : List (List ℕ × V)) → AllByRecursion P (keys_of es) → AllByRecursion P (keys_of (take n es))
  all_keys-taken P zero es a = tt
  all_keys-taken P (suc n) [] a = tt
  all_keys-taken P (suc n) (e ∷ es) a = (a.0, all_keys-taken P n es a.1)

  rising-taken : (n : ℕ) (es : List (List ℕ × V)) → IsRising es → IsRising (take n es)
  unfolding IsStrictlySortedBy
  rising-taken zero es r = tt
  rising-taken (suc n) [] r = tt
  rising-taken (suc n) (e ∷ es) r = (all_keys-taken (λ j. order e.0 j ≡ Less) n es r.0, rising-taken n es r.1)

  pub rising-rows : (m : List (List ℕ × V)) (lo : List ℕ) (hi : Option (List ℕ)) (limit : ℕ) → IsRising m → IsRising (rows lo hi limit m)
  rising-rows m lo hi limit r = rising-taken limit (in_range lo hi m) (rising-filtered (λ e. is_within lo hi e.0) m r)

  -- ---- lookups

  value_at-in_range_by : (b : Bool) (m : List (List ℕ × V)) (lo : List ℕ) (hi : Option (List ℕ)) (k : List ℕ) → is_within lo hi k ≡ b → value_at k (in_range lo hi m) ≡ cond b (value_at k m) None
  value_at-in_range_by b m lo hi k h =
      lookup-filter-keys (λ j. is_eq (order k j)) (is_within lo hi) b (λ j p. ap (is_within lo hi) (sym (passes_same k j p)) ∙ h) m

  -- outside a range a lookup finds what it found before, and within it nothing
  pub value_at-out_of_range : (m : List (List ℕ × V)) (lo : List ℕ) (hi : Option (List ℕ)) (k : List ℕ) → value_at k (out_of_range lo hi m) ≡ cond (not (is_within lo hi k)) (value_at k m) None
  value_at-out_of_range m lo hi k =
      lookup-filter-keys (λ j. is_eq (order k j)) (λ j. not (is_within lo hi j)) (not (is_within lo hi k)) (λ j p. ap (λ (i : List ℕ). not (is_within lo hi i)) (sym (passes_same k j p))) m

  pub wiped_within : (m : List (List ℕ × V)) (lo : List ℕ) (hi : Option (List ℕ)) (k : List ℕ) → is_within lo hi k ≡ true → value_at k (out_of_range lo hi m) ≡ None
  wiped_within m lo hi k h = value_at-out_of_range m lo hi k ∙ ap (λ (b : Bool). cond (not b) (value_at k m) None) h

  pub kept_outside : (m : List (List ℕ × V)) (lo : List ℕ) (hi : Option (List ℕ)) (k : List ℕ) → is_within lo hi k ≡ false → value_at k (out_of_range lo hi m) ≡ value_at k m
  kept_outside m lo hi k h = value_at-out_of_range m lo hi k ∙ ap (λ (b : Bool). cond (not b) (value_at k m) None) h

  -- the pairs in a range and those outside it are all
  pub both_parts : (m : List (List ℕ × V)) (lo : List ℕ) (hi : Option (List ℕ)) → length (out_of_range lo hi m) + length (in_range lo hi m) ≡ length m
  both_parts m lo hi =
      let all = length-filter_both (λ (e : List ℕ × V). is_within lo hi e.0) (λ (e : List ℕ × V). not (is_within lo hi e.0)) (λ e. refl) m in
      omega (arith, all)

  -- a lookup among the first pairs finds nothing else
  cut_by : (b : Bool) (k : List ℕ) (v : V) (e : List ℕ × V) (es rest : List (List ℕ × V)) → (value_at k rest ≡ Some v → value_at k es ≡ Some v) → cond b (Some e.1) (value_at k rest) ≡ Some v → cond b (Some e.1) (value_at k es) ≡ Some v
  cut_by true k v e es rest ih h = h
  cut_by false k v e es rest ih h = ih h

  value_at_taken : (n : ℕ) (es : List (List ℕ × V)) (k : List ℕ) (v : V) → value_at k (take n es) ≡ Some v → value_at k es ≡ Some v
  value_at_taken zero es k v h = absurd (cc)
  value_at_taken (suc n) [] k v h = absurd (cc)
  value_at_taken (suc n) (e ∷ es) k v h = cut_by (is_eq (order k e.0)) k v e es (take n es) (value_at_taken n es k v) h

  held_by : (b : Bool) (o : Option V) (v : V) → cond b o None ≡ Some v → (o ≡ Some v) × (b ≡ true)
  held_by true o v h = (h, refl)
  held_by false o v h = absurd (cc)

  pub held_rows : (m : List (List ℕ × V)) (lo : List ℕ) (hi : Option (List ℕ)) (limit : ℕ) (k : List ℕ) (v : V) → value_at k (rows lo hi limit m) ≡ Some v → (value_at k m ≡ Some v) × (is_within lo hi k ≡ true)
  held_rows m lo hi limit k v h =
      held_by (is_within lo hi k) (value_at k m) v (sym (value_at-in_range_by (is_within lo hi k) m lo hi k refl) ∙ value_at_taken limit (in_range lo hi m) k v h)

  -- a pair is among the first n, or there are n and all are below it
  abbrev IsTakenOrAfter : ℕ → List (List ℕ × V) → List ℕ → V → Type 0
  IsTakenOrAfter n es k v = (value_at k (take n es) ≡ Some v) ⊎ ((length (take n es) ≡ n) × AllByRecursion (λ j. is_below j k ≡ true) (keys_of (take n es)))

  below_by : (b : Bool) (k j : List ℕ) (v : V) (e : List ℕ × V) (o : Option V) → is_eq (order k e.0) ≡ b → order j e.0 ≡ Less → (o ≡ Some v → order j k ≡ Less) → cond b (Some e.1) o ≡ Some v → order j k ≡ Less
  below_by true k j v e o b l ih h = rw (passes_same k e.0 b) l
  below_by false k j v e o b l ih h = ih h

  -- what is below all keys of pairs is below the key of one of them
  pub all_below : (k : List ℕ) (es : List (List ℕ × V)) (v : V) (j : List ℕ) → IsBelowAll j (keys_of es) → value_at k es ≡ Some v → order j k ≡ Less
  all_below k [] v j a h = absurd (cc)
  all_below k (e ∷ es) v j a h = below_by (is_eq (order k e.0)) k j v e (value_at k es) refl a.0 (λ p. all_below k es v j a.1 p) h

  taken_by : (b : Bool) (n : ℕ) (e : List ℕ × V) (es : List (List ℕ × V)) (k : List ℕ) (v : V) → is_eq (order k e.0) ≡ b → IsBelowAll e.0 (keys_of es) → cond b (Some e.1) (value_at k es) ≡ Some v
      → (value_at k es ≡ Some v → IsTakenOrAfter n es k v) → IsTakenOrAfter (suc n) (e ∷ es) k v
  taken_by true n e es k v b a h ih = inl (rw b h)
  taken_by false n e es k v b a h ih = elim (ih h) [
    | inl t ↦ inl (rw b t)
    | inr t ↦ (let l : is_below e.0 k ≡ true = rw (all_below k es v e.0 a h) refl in inr (ap (λ (x : ℕ). suc x) t.0, (l, t.1)))
  ]

  taken_or_after : (n : ℕ) (es : List (List ℕ × V)) (k : List ℕ) (v : V) → IsRising es → value_at k es ≡ Some v → IsTakenOrAfter n es k v
  unfolding IsStrictlySortedBy
  taken_or_after zero es k v r h = inr (refl, tt)
  taken_or_after (suc n) [] k v r h = absurd (cc)
  taken_or_after (suc n) (e ∷ es) k v r h = taken_by (is_eq (order k e.0)) n e es k v refl r.0 h (λ p. taken_or_after n es k v r.1 p)

  pub row_or_after : (m : List (List ℕ × V)) (lo : List ℕ) (hi : Option (List ℕ)) (limit : ℕ) (k : List ℕ) (v : V) → IsRising m → value_at k m ≡ Some v → is_within lo hi k ≡ true
      → (value_at k (rows lo hi limit m) ≡ Some v) ⊎ ((length (rows lo hi limit m) ≡ limit) × AllByRecursion (λ j. is_below j k ≡ true) (keys_of (rows lo hi limit m)))
  row_or_after m lo hi limit k v r h w =
      taken_or_after limit (in_range lo hi m) k v (rising-filtered (λ e. is_within lo hi e.0) m r) (value_at-in_range_by true m lo hi k w ∙ h)

  -- ---- how many

  pub at_most_rows : (m : List (List ℕ × V)) (lo : List ℕ) (hi : Option (List ℕ)) (limit : ℕ) → length (rows lo hi limit m) ≤ limit
  at_most_rows m lo hi limit = let e = length-take limit (in_range lo hi m) in omega (arith, e)

  pub none_in_range : (m : List (List ℕ × V)) (lo hi : List ℕ) → is_below lo hi ≡ false → in_range lo (Some hi) m ≡ []
  none_in_range [] lo hi h = refl
  none_in_range (e ∷ m) lo hi h =
      ap (λ (b : Bool). cond b (e ∷ in_range lo (Some hi) m) (in_range lo (Some hi) m)) (none_by (is_below e.0 lo) (is_below e.0 hi) lo hi e.0 refl refl h) ∙ none_in_range m lo hi h

  take_nothing : (n : ℕ) (es : List (List ℕ × V)) → es ≡ [] → take n es ≡ []
  take_nothing zero es h = refl
  take_nothing (suc n) [] h = refl
  take_nothing (suc n) (e ∷ es) h = absurd (cc)

  pub no_rows : (m : List (List ℕ × V)) (lo hi : List ℕ) (limit : ℕ) → is_below lo hi ≡ false → rows lo (Some hi) limit m ≡ []
  no_rows m lo hi limit h = take_nothing limit (in_range lo (Some hi) m) (none_in_range m lo hi h)
