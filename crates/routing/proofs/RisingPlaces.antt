-- Lemmas on places in rising order, for the proofs of this crate and of those above it.
use Rattle.std.specs.Prelude.{◌≡◌, ℕ, zero, suc, ◌<◌, ◌≤◌, Bool, true, false, List, [], ◌∷◌, ◌++◌, length, nat_eq, nat_lt, ⊤}
use Rattle.std.proofs.Common.{refl, sym, ap, ◌∙◌, subst, arith, get_or, Less}
use Rattle.std.specs.List.{AllByRecursion, IsDistinct}
use Rattle.std.specs.List.Sorted.{IsPermutation, IsNonDecreasing, IsStrictlyIncreasing, IsStrictlySortedBy}
use Rattle.std.specs.Ordering.{nat_cmp}
use Rattle.std.proofs.lemmas.Bool.{eqb-true, ltb-true, ltb-false}
use Rattle.std.proofs.lemmas.Cmp.{nat_cmp_total, nat_eq_equiv, tied_itself}
use Rattle.std.proofs.lemmas.List.{append-nil, nil_from_length}
use Rattle.std.proofs.lemmas.List.Elements.{All-from_recursion}
use Rattle.std.proofs.lemmas.List.Sorted.{IsPermutation-refl, IsPermutation-sym, IsPermutation-cons, IsPermutation-trans, IsPermutation-middle}
use Rattle.std.proofs.lemmas.Map.Keys.{IsDistinct-IsPermutation, sorted_from_strictly_increasing}
use Rattle.routing.specs.Keyed.{Keyed, places_of}
use Rattle.routing.specs.Rising.{inserted, rising}
use Rattle.routing.specs.Routes.{Route}
use Rattle.routing.specs.Shares.{Share, Lent, all_of, share_of_lent, HasEachPlaceOnce, IsInBatchOrder}
use Rattle.routing.proofs.BatchOrder.{same_parts}
use Rattle.routing.proofs.SliceLemmas.{rising_once_sorted}
use Rattle.routing.proofs.SortLemmas.{among-permutation, same_number, same_sorted}

-- ---- the same places

same_by : (b : Bool) (q p : ℕ) (qs : List ℕ) → nat_lt q p ≡ b → IsPermutation (p ∷ qs) (inserted qs p) → IsPermutation (p ∷ (q ∷ qs)) (inserted (q ∷ qs) p)
same_by true q p qs e h =
    rw e (IsPermutation-trans (p ∷ (q ∷ qs)) (q ∷ (p ∷ qs)) (q ∷ inserted qs p) (IsPermutation-middle (p ∷ []) q qs) (IsPermutation-cons q (p ∷ qs) (inserted qs p) h))
same_by false q p qs e h = rw e (IsPermutation-refl (p ∷ (q ∷ qs)))

same-inserted : (qs : List ℕ) (p : ℕ) → IsPermutation (p ∷ qs) (inserted qs p)
same-inserted [] p = IsPermutation-refl (p ∷ [])
same-inserted (q ∷ qs) p = same_by (nat_lt q p) q p qs refl (same-inserted qs p)

pub same-rising : (ps : List ℕ) → IsPermutation ps (rising ps)
same-rising [] = IsPermutation-refl []
same-rising (p ∷ ps) = IsPermutation-trans (p ∷ ps) (p ∷ rising ps) (inserted (rising ps) p) (IsPermutation-cons p ps (rising ps) (same-rising ps)) (same-inserted (rising ps) p)

-- ---- their order

abbrev Rise : List ℕ → Type 0
Rise [] = ⊤
Rise (p ∷ ps) = AllByRecursion (λ q. p ≤ q) ps × Rise ps

least_by : (b : Bool) (n q p : ℕ) (qs : List ℕ) → nat_lt q p ≡ b → n ≤ p → AllByRecursion (λ r. n ≤ r) (q ∷ qs) → AllByRecursion (λ r. n ≤ r) (inserted qs p) → AllByRecursion (λ r. n ≤ r) (inserted (q ∷ qs) p)
least_by true n q p qs e l a h = rw e (a.0, h)
least_by false n q p qs e l a h = rw e (l, a)

least-inserted : (n : ℕ) (qs : List ℕ) (p : ℕ) → n ≤ p → AllByRecursion (λ q. n ≤ q) qs → AllByRecursion (λ q. n ≤ q) (inserted qs p)
least-inserted n [] p l a = (l, tt)
least-inserted n (q ∷ qs) p l a = least_by (nat_lt q p) n q p qs refl l a (least-inserted n qs p l a.1)

least_lower : (m n : ℕ) (qs : List ℕ) → m ≤ n → AllByRecursion (λ q. n ≤ q) qs → AllByRecursion (λ q. m ≤ q) qs
least_lower m n [] l a = tt
least_lower m n (q ∷ qs) l a = let first = a.0 in (omega (arith, first, l), least_lower m n qs l a.1)

rise_by : (b : Bool) (q p : ℕ) (qs : List ℕ) → nat_lt q p ≡ b → Rise (q ∷ qs) → Rise (inserted qs p) → Rise (inserted (q ∷ qs) p)
rise_by true q p qs e h k =
    let below = ltb-true q p e in
    rw e (least-inserted q qs p (omega (arith, below)) h.0, k)
rise_by false q p qs e h k =
    let l : p ≤ q = ltb-false q p e in
    rw e ((l, least_lower p q qs l h.0), h)

rise-inserted : (qs : List ℕ) (p : ℕ) → Rise qs → Rise (inserted qs p)
rise-inserted [] p h = (tt, tt)
rise-inserted (q ∷ qs) p h = rise_by (nat_lt q p) q p qs refl h (rise-inserted qs p h.1)

rise-rising : (ps : List ℕ) → Rise (rising ps)
rise-rising [] = tt
rise-rising (p ∷ ps) = rise-inserted (rising ps) p (rise-rising ps)

by_index : (ps : List ℕ) → Rise ps → (i j d : ℕ) → i ≤ j → j < length ps → get_or ps i d ≤ get_or ps j d
by_index [] h i j d l w = absurd (omega arith)
by_index (p ∷ ps) h zero zero d l w = omega arith
by_index (p ∷ ps) h zero (suc j) d l w = All-from_recursion (λ q. p ≤ q) ps h.0 j d (omega arith)
by_index (p ∷ ps) h (suc i) zero d l w = absurd (omega arith)
by_index (p ∷ ps) h (suc i) (suc j) d l w = by_index ps h.1 i j d (omega arith) (omega arith)

pub rising-rising : (ps : List ℕ) → IsNonDecreasing (rising ps)
rising-rising ps = by_index (rising ps) (rise-rising ps)

pub rising-distinct : (ps : List ℕ) → IsDistinct nat_eq ps → IsStrictlyIncreasing (rising ps)
rising-distinct ps d = rising_once_sorted ps (rising ps) d (same-rising ps) (rising-rising ps)

-- ---- distinct places

pub distinct-one : (p : ℕ) → IsDistinct nat_eq (p ∷ [])
unfolding IsDistinct
distinct-one p = (tt, tt)

-- places that rise are distinct
different_by : (b : Bool) (p q : ℕ) → nat_eq p q ≡ b → nat_cmp p q ≡ Less → b ≡ false
different_by true p q e l = absurd (let t = tied_itself nat_cmp_total p in let same = eqb-true p q e in let u : nat_cmp p p ≡ Less = subst (λ (i : ℕ). nat_cmp p i ≡ Less) (sym same) l in cc)
different_by false p q e l = refl

different : (p : ℕ) (qs : List ℕ) → AllByRecursion (λ q. nat_cmp p q ≡ Less) qs → AllByRecursion (λ q. nat_eq p q ≡ false) qs
different p [] a = tt
different p (q ∷ qs) a = (different_by (nat_eq p q) p q refl a.0, different p qs a.1)

distinct_sorted : (ps : List ℕ) → IsStrictlySortedBy nat_cmp ps → IsDistinct nat_eq ps
unfolding IsStrictlySortedBy IsDistinct
distinct_sorted [] h = tt
distinct_sorted (p ∷ ps) h = (different p ps h.0, distinct_sorted ps h.1)

pub distinct_rising : (ps : List ℕ) → IsStrictlyIncreasing ps → IsDistinct nat_eq ps
distinct_rising ps h = distinct_sorted ps (sorted_from_strictly_increasing ps h)

-- lists that rise and have the same places are equal
pub same_rising_places : (ps qs : List ℕ) → IsStrictlyIncreasing ps → IsStrictlyIncreasing qs → IsPermutation ps qs → ps ≡ qs
same_rising_places ps qs r s p =
    same_sorted nat_cmp nat_cmp_total same_number ps qs (λ n. among-permutation n ps qs p) (sorted_from_strictly_increasing ps r) (sorted_from_strictly_increasing qs s)

-- ---- the run of a share

pub distinct_places : (l : Lent) (ps : List ℕ) → HasEachPlaceOnce (share_of_lent l) → IsPermutation (all_of (share_of_lent l)) ps → IsDistinct nat_eq ps
distinct_places l ps h p = IsDistinct-IsPermutation nat_eq nat_eq_equiv.symm (all_of (share_of_lent l)) ps p h

pub in_batch_order_by : (s : Share) (o : Route) (pid : ℕ) (ps : List ℕ) → o ≡ record { pid = pid; places = rising ps } → pid ≡ s.pid → IsPermutation (all_of s) ps → IsInBatchOrder s o
in_batch_order_by s o pid ps e f p =
    let places : rising ps ≡ o.places = sym (ap (λ (r : Route). r.places) e) in
    record {
      pid = ap (λ (r : Route). r.pid) e ∙ f;
      same = subst (λ (qs : List ℕ). IsPermutation (all_of s) qs) places (IsPermutation-trans (all_of s) ps (rising ps) p (same-rising ps));
      rising = subst (λ (qs : List ℕ). IsNonDecreasing qs) places (rising-rising ps);
    }

-- the places of a share that no scan or wipe reaches are its own
pub own_places : (l : Lent) (ks : List Keyed) (rs ps : List ℕ) → ks ≡ l.keyed → rs ≡ l.reaching → length rs ≡ 0 → ps ≡ places_of ks → IsPermutation (all_of (share_of_lent l)) ps
own_places l ks rs ps e f none h =
    let all : places_of ks ++ rs ≡ ps = ap (λ (xs : List ℕ). places_of ks ++ xs) (nil_from_length rs none) ∙ append-nil (places_of ks) ∙ sym h in
    same_parts l ks rs ps e f (subst (λ (xs : List ℕ). IsPermutation (places_of ks ++ rs) xs) all (IsPermutation-refl (places_of ks ++ rs)))

-- ---- the places of a run

pub kept_same : (r : Route) (pid : ℕ) (ps qs : List ℕ) → record { pid = pid; places = rising ps } ≡ r → qs ≡ ps → IsPermutation r.places qs
kept_same r pid ps qs e f =
    let there : rising ps ≡ r.places = ap (λ (x : Route). x.places) e in
    subst (λ (os : List ℕ). IsPermutation os qs) there
    (subst (λ (os : List ℕ). IsPermutation (rising ps) os) (sym f) (IsPermutation-sym ps (rising ps) (same-rising ps)))

pub kept_rising : (r : Route) (pid : ℕ) (ps : List ℕ) → record { pid = pid; places = rising ps } ≡ r → IsDistinct nat_eq ps → IsStrictlyIncreasing r.places
kept_rising r pid ps e d = subst (λ (os : List ℕ). IsStrictlyIncreasing os) (ap (λ (x : Route). x.places) e) (rising-distinct ps d)
