-- Lemmas on places in the order of their keys, for the proofs of this crate and of those above it.
use Rattle.std.specs.Prelude.{◌≡◌, ℕ, ◌+◌, ◌<◌, Bool, true, false, List, [], ◌∷◌, map, length, nat_eq, Some}
use Rattle.std.proofs.Common.{refl, sym, ap, ◌∙◌, subst, arith, get_or, Ordering, Less, Equal, Greater, eqb-true, eq-eqb}
use Rattle.std.specs.Ordering.{is_lt, is_le, is_eq, is_some_and, eq_by_cmp, nat_cmp, ordering_then, partial_ordering_then}
use Rattle.std.specs.Cmp.{IsTotalOrder}
use Rattle.std.specs.List.{AllAdjacentBelow, AllByRecursion, All, IsDistinct, list_any}
use Rattle.std.specs.List.Sorted.{IsPermutation, IsSorted, IsStrictlySortedBy}
use Rattle.std.proofs.lemmas.Cmp.{nat_cmp_total, on_total, then_total, tied_itself, ranked, eq_by_cmp_equiv}
use Rattle.std.proofs.lemmas.List.{get_or-map, length-map}
use Rattle.std.proofs.lemmas.List.Elements.{All-from_recursion, recursion_from_All}
use Rattle.std.proofs.lemmas.List.Sorted.{IsPermutation-map, All-permutation, list_any-IsPermutation}
use Rattle.std.proofs.lemmas.Map.Keys.{IsDistinct-from_sorted, IsDistinct-IsPermutation, apart_from_distinct, sorted_from_all_adjacent}
use Rattle.keys.specs.Order.{order}
use Rattle.keys.proofs.MapLemmas.{total}
use Rattle.keys.specs.declared.command.Command.{Command}
use Rattle.mapping.specs.FreshPids.{is_among}
use Rattle.routing.specs.Places.{places_below}
use Rattle.routing.specs.BatchKeys.{key_at}
use Rattle.routing.specs.Keyed.{Keyed}
use Rattle.routing.specs.SortedPlaces.{order_of_places, AreInKeyOrder, AreSortedPlaces}
use Rattle.routing.proofs.RouteLemmas.{rising-range}

-- ---- the order of places

pub total_places : {A : Type 0} (cs : List (Command A)) → IsTotalOrder (order_of_places cs)
total_places cs = then_total (on_total (key_at cs) total) nat_cmp_total

equal_then : (o s : Ordering) → ordering_then o s ≡ Equal → s ≡ Equal
equal_then Less s h = absurd (cc)
equal_then Equal s h = h
equal_then Greater s h = absurd (cc)

pub same_number : (m n : ℕ) → nat_cmp m n ≡ Equal → m ≡ n
same_number m n h = ranked m n Equal (sym h)

-- places that compare alike are the same place
pub same_place : {A : Type 0} (cs : List (Command A)) (p q : ℕ) → order_of_places cs p q ≡ Equal → p ≡ q
same_place cs p q h = same_number p q (equal_then (order (key_at cs p) (key_at cs q)) (nat_cmp p q) h)

-- ---- what is among a list

among_first_by : (b : Bool) (P : ℕ → Type 0) (n m : ℕ) (ms : List ℕ) → nat_eq n m ≡ b → P m → (is_among n ms ≡ true → P n) → is_among n (m ∷ ms) ≡ true → P n
among_first_by true P n m ms e p f h = subst P (sym (eqb-true n m e)) p
among_first_by false P n m ms e p f h = f (rw e at h)

-- what holds of all holds of each that is among them
pub holds_among : (P : ℕ → Type 0) (n : ℕ) (ms : List ℕ) → AllByRecursion P ms → is_among n ms ≡ true → P n
holds_among P n [] a h = absurd (cc)
holds_among P n (m ∷ ms) a h = among_first_by (nat_eq n m) P n m ms refl a.0 (holds_among P n ms a.1) h

pub among_itself : (n : ℕ) (ms : List ℕ) → is_among n (n ∷ ms) ≡ true
among_itself n ms = let e : nat_eq n n ≡ true = eq-eqb n n refl in rw e refl

among-any : (n : ℕ) (ms : List ℕ) → is_among n ms ≡ list_any (nat_eq n) ms
among-any n [] = refl
among-any n (m ∷ ms) = rw (among-any n ms) refl

-- the same are among a list and its permutation
pub among-permutation : (n : ℕ) (ms ns : List ℕ) → IsPermutation ms ns → is_among n ms ≡ is_among n ns
among-permutation n ms ns p = among-any n ms ∙ list_any-IsPermutation (nat_eq n) ms ns p ∙ sym (among-any n ns)

-- ---- sorted lists with the same elements

module _ (R : ℕ → ℕ → Ordering) (o : IsTotalOrder R) (exact : (m n : ℕ) → R m n ≡ Equal → m ≡ n) where
  not_after_by : (b : Bool) (n : ℕ) (ms : List ℕ) → is_among n ms ≡ b → AllByRecursion (λ m. R n m ≡ Less) ms → b ≡ false
  not_after_by true n ms e a = absurd (let l = holds_among (λ m. R n m ≡ Less) n ms a e in let t = tied_itself o n in cc)
  not_after_by false n ms e a = refl

  not_after : (n : ℕ) (ms : List ℕ) → AllByRecursion (λ m. R n m ≡ Less) ms → is_among n ms ≡ false
  not_after n ms a = not_after_by (is_among n ms) n ms refl a

  less_all : (m n : ℕ) (ns : List ℕ) → R m n ≡ Less → AllByRecursion (λ i. R n i ≡ Less) ns → AllByRecursion (λ i. R m i ≡ Less) ns
  less_all m n [] l a = tt
  less_all m n (i ∷ is) l a = (o.trans m n i l a.0, less_all m n is l a.1)

  -- what is among the one list can't come before all of the other
  not_first : (m n : ℕ) (ms ns : List ℕ) → ((i : ℕ) → is_among i (m ∷ ms) ≡ is_among i (n ∷ ns)) → AllByRecursion (λ i. R n i ≡ Less) ns → R m n ≡ Less → ⊥
  not_first m n ms ns e a l =
      let none = not_after m (n ∷ ns) (l, less_all m n ns l a) in
      let some = among_itself m ms in
      let same = e m in
      cc

  tail_by : (b : Bool) (i m : ℕ) (ms ns : List ℕ) → nat_eq i m ≡ b → is_among i (m ∷ ms) ≡ is_among i (m ∷ ns) → is_among m ms ≡ false → is_among m ns ≡ false → is_among i ms ≡ is_among i ns
  tail_by true i m ms ns e s f g = let t : i ≡ m = eqb-true i m e in rw (t, f, g) refl
  tail_by false i m ms ns e s f g = rw e at s

  heads_by : (q : Ordering) (m n : ℕ) (ms ns : List ℕ) → R m n ≡ q → ((i : ℕ) → is_among i (m ∷ ms) ≡ is_among i (n ∷ ns)) → AllByRecursion (λ i. R m i ≡ Less) ms → AllByRecursion (λ i. R n i ≡ Less) ns → m ≡ n
  heads_by Less m n ms ns h e a b = absurd (not_first m n ms ns e b h)
  heads_by Equal m n ms ns h e a b = exact m n h
  heads_by Greater m n ms ns h e a b =
      let l : R n m ≡ Less = rw (o.antisymm n m, h) refl in
      absurd (not_first n m ns ms (λ i. sym (e i)) a l)

  pub same_sorted : (ms ns : List ℕ) → ((i : ℕ) → is_among i ms ≡ is_among i ns) → IsStrictlySortedBy R ms → IsStrictlySortedBy R ns → ms ≡ ns
  unfolding IsStrictlySortedBy
  same_sorted [] [] e r s = refl
  same_sorted [] (n ∷ ns) e r s = absurd (let t = among_itself n ns in let f = e n in cc)
  same_sorted (m ∷ ms) [] e r s = absurd (let t = among_itself m ms in let f = e m in cc)
  same_sorted (m ∷ ms) (n ∷ ns) e r s =
      let t : m ≡ n = heads_by (R m n) m n ms ns refl e r.0 s.0 in
      let f : AllByRecursion (λ i. R m i ≡ Less) ns = subst (λ (x : ℕ). AllByRecursion (λ i. R x i ≡ Less) ns) (sym t) s.0 in
      let g : (i : ℕ) → is_among i (m ∷ ms) ≡ is_among i (m ∷ ns) = subst (λ (x : ℕ). (i : ℕ) → is_among i (m ∷ ms) ≡ is_among i (x ∷ ns)) (sym t) e in
      let tails = same_sorted ms ns (λ i. tail_by (nat_eq i m) i m ms ns refl (g i) (not_after m ms r.0) (not_after m ns f)) r.1 s.1 in
      subst (λ (x : ℕ). m ∷ ms ≡ x ∷ ns) t (ap (λ (xs : List ℕ). m ∷ xs) tails)

-- the sorted places are determined
pub same_sorted_places : {A : Type 0} (cs : List (Command A)) (ps qs : List ℕ) → AreSortedPlaces cs ps → AreSortedPlaces cs qs → ps ≡ qs
same_sorted_places cs ps qs h k =
    same_sorted (order_of_places cs) (total_places cs) (same_place cs) ps qs (λ n. sym (among-permutation n (places_below (length cs)) ps h.all) ∙ among-permutation n (places_below (length cs)) qs k.all) h.in_order k.in_order

-- ---- what is sorted with its keys

module _ {A X : Type 0} (cs : List (Command A)) (key : X → List ℕ) (place : X → ℕ) where
  abbrev pub compared : X → X → Ordering
  compared x y = ordering_then (order (key x) (key y)) (nat_cmp (place x) (place y))

  abbrev pub IsKeyed : X → Type 0
  IsKeyed x = key x ≡ key_at cs (place x)

  less_by : (q : Ordering) (m n : ℕ) → order_of_places cs n m ≡ q → is_lt q ≡ false → is_eq (nat_cmp m n) ≡ false → order_of_places cs m n ≡ Less
  less_by Less m n e h d = absurd (cc)
  less_by Equal m n e h d = absurd (let t = same_place cs n m e in let u = tied_itself nat_cmp_total m in let f : is_eq (nat_cmp m m) ≡ false = subst (λ (i : ℕ). is_eq (nat_cmp m i) ≡ false) t d in cc)
  less_by Greater m n e h d = rw ((total_places cs).antisymm m n, e) refl

  step : (x y : X) → IsKeyed x → IsKeyed y → is_lt (compared y x) ≡ false → is_eq (nat_cmp (place x) (place y)) ≡ false → order_of_places cs (place x) (place y) ≡ Less
  step x y e f h d =
      let g : is_lt (order_of_places cs (place y) (place x)) ≡ false = rw (e, f) at h in
      less_by (order_of_places cs (place y) (place x)) (place x) (place y) refl g d

  in_order : (xs : List X) → All IsKeyed xs → IsSorted compared xs → IsDistinct (eq_by_cmp nat_cmp) (map place xs) → AreInKeyOrder cs (map place xs)
  unfolding IsStrictlySortedBy
  in_order [] a s d = tt
  in_order (x ∷ xs) a s d =
      sorted_from_all_adjacent (total_places cs) (map place (x ∷ xs)) (place x) (λ k h.
      let l : length (map place (x ∷ xs)) ≡ length (x ∷ xs) = length-map (x ∷ xs) place in
      let b : k < length (x ∷ xs) = omega arith in
      let m : k + 1 < length (x ∷ xs) = omega arith in
      let n : k < k + 1 = omega arith in
      let here : get_or (map place (x ∷ xs)) k (place x) ≡ place (get_or (x ∷ xs) k x) = get_or-map place (x ∷ xs) k x (place x) b in
      let next : get_or (map place (x ∷ xs)) (k + 1) (place x) ≡ place (get_or (x ∷ xs) (k + 1) x) = get_or-map place (x ∷ xs) (k + 1) x (place x) m in
      let apart = apart_from_distinct (eq_by_cmp nat_cmp) (map place (x ∷ xs)) k (k + 1) (place x) d n h in
      rw (here, next) (step (get_or (x ∷ xs) k x) (get_or (x ∷ xs) (k + 1) x) (a k x b) (a (k + 1) x m) (s k x (omega arith) m) (rw (here, next) at apart)))

  -- a sort by key and place, of commands' keys with their places, puts the places in order
  pub places_of_sorted : (xs ys : List X) → map place xs ≡ places_below (length cs) → AllByRecursion IsKeyed xs → IsPermutation xs ys → IsSorted compared ys → AreSortedPlaces cs (map place ys)
  places_of_sorted xs ys e a p s =
      let moved : IsPermutation (places_below (length cs)) (map place ys) = rw e at (IsPermutation-map place xs ys p) in
      record {
        all = moved;
        in_order = in_order ys (All-permutation IsKeyed xs ys p (All-from_recursion IsKeyed xs a)) s (IsDistinct-IsPermutation (eq_by_cmp nat_cmp) (eq_by_cmp_equiv nat_cmp_total).symm (places_below (length cs)) (map place ys) moved (IsDistinct-from_sorted nat_cmp (places_below (length cs)) (rising-range 0 (length cs))));
      }

  -- and each still has its key
  pub keyed_sorted : (xs ys : List X) → AllByRecursion IsKeyed xs → IsPermutation xs ys → AllByRecursion IsKeyed ys
  keyed_sorted xs ys a p = recursion_from_All IsKeyed ys (All-permutation IsKeyed xs ys p (All-from_recursion IsKeyed xs a))

-- ---- what `is_sorted` says of keys with their places

abbrev pub compare_keyed : Keyed → Keyed → Ordering
compare_keyed x y = ordering_then (order x.0 y.0) (nat_cmp x.1 y.1)

total_keyed : IsTotalOrder compare_keyed
total_keyed = then_total (on_total (λ (x : Keyed). x.0) total) (on_total (λ (x : Keyed). x.1) nat_cmp_total)

then_partly : (o p : Ordering) → is_some_and is_le (partial_ordering_then (Some o) (Some p)) ≡ is_le (ordering_then o p)
then_partly Less p = refl
then_partly Equal p = refl
then_partly Greater p = refl

not_below_by : (o : Ordering) (x y : Keyed) → compare_keyed x y ≡ o → is_le o ≡ true → is_lt (compare_keyed y x) ≡ false
not_below_by Less x y e h = rw (total_keyed.antisymm y x, e) refl
not_below_by Equal x y e h = rw (total_keyed.antisymm y x, e) refl
not_below_by Greater x y e h = absurd (cc)

pub sorted_from_is_sorted : (xs : List Keyed) → AllAdjacentBelow (λ (x y : Keyed). is_some_and is_le (partial_ordering_then (Some (order x.0 y.0)) (Some (nat_cmp x.1 y.1))) ≡ true) xs (length xs) → IsSorted compare_keyed xs
sorted_from_is_sorted xs h = λ k d from below.
    let x = get_or xs k d in
    let y = get_or xs (k + 1) d in
    not_below_by (compare_keyed x y) x y refl (sym (then_partly (order x.0 y.0) (nat_cmp x.1 y.1)) ∙ h k d below)
