-- Lemmas on the sorted places of a range, for the proofs of this crate and of those above it.
use Rattle.std.specs.Prelude.{◌≡◌, ℕ, zero, suc, ◌+◌, ◌-◌, ◌<◌, ◌≤◌, Bool, true, false, not, ◌&&◌, ◌||◌, cond, List, [], ◌∷◌, ◌++◌, length, take, drop, slice_get, nat_eq, Option, Some, None}
use Rattle.std.proofs.Common.{refl, sym, ap, ◌∙◌, subst, get_or, arith, inl, inr, Ordering, Less, Equal, Greater, eqb-true, length-drop}
use Rattle.std.specs.Ordering.{nat_cmp, ordering_then}
use Rattle.std.specs.List.{AllByRecursion, IsDistinct, filter, slice_range}
use Rattle.std.specs.List.Sorted.{IsPermutation, IsSorted, IsStrictlySortedBy, IsStrictlyIncreasing, IsNonDecreasing, IsPartitionedBy, IsPartitionPoint}
use Rattle.std.proofs.lemmas.Cmp.{nat_cmp_total, tied_itself, nat_eq_equiv}
use Rattle.std.proofs.lemmas.Bool.{cases_lt, and_parts}
use Rattle.std.proofs.lemmas.List.{take-append-drop, get_or_default, get_or-take, get_or-drop, length-take}
use Rattle.std.proofs.lemmas.List.Elements.{recursion_from_All}
use Rattle.std.proofs.lemmas.List.Kept.{IsStrictlySortedBy-filter}
use Rattle.std.proofs.lemmas.List.Folds.{drop_split}
use Rattle.std.proofs.lemmas.List.Sorted.{IsNonDecreasingBy-from_sort}
use Rattle.std.proofs.lemmas.Map.Keys.{IsDistinct-IsPermutation, IsStrictlyIncreasing-from_distinct, sorted_from_strictly_increasing, Less-from_sorted}
use Rattle.keys.specs.Order.{order}
use Rattle.keys.proofs.Basics.{or_turned}
use Rattle.keys.proofs.MapLemmas.{total}
use Rattle.keys.specs.CommandKey.{key_of}
use Rattle.keys.specs.Footprint.{Span, One, Range, span_of, first_of}
use Rattle.keys.specs.Places.{is_some_that}
use Rattle.keys.specs.declared.command.Command.{Command}
use Rattle.index_page.specs.Range.{is_below, is_before, is_within, IsBefore}
use Rattle.index_page.proofs.ListLemmas.{all-append, all_weaker}
use Rattle.index_page.proofs.RangeLemmas.{below_is_less, less_is_below, less_through}
use Rattle.index_page.proofs.ChildLemmas.{within_parts as parts_within}
use Rattle.mapping.proofs.PidLemmas.{all_among}
use Rattle.mapping.specs.FreshPids.{is_among}
use Rattle.routing.specs.BatchKeys.{key_or_empty, key_at}
use Rattle.routing.specs.Places.{places_below}
use Rattle.routing.specs.Routes.{goes_to, places_from, places_within}
use Rattle.routing.specs.SortedPlaces.{order_of_places, AreInKeyOrder, AreSortedPlaces, begins_in, reaches_page, reaches, reaches_at, AreSortedWithin, AreSortedReaching}
use Rattle.routing.proofs.RouteLemmas.{among-places, goes_as, all_places, within_parts, rising-places_from, among-append}
use Rattle.routing.proofs.SortLemmas.{total_places, holds_among, among-permutation, same_sorted, same_number}

-- distinct numbers, once sorted, rise strictly
pub rising_once_sorted : (ps qs : List ℕ) → IsDistinct nat_eq ps → IsPermutation ps qs → IsNonDecreasing qs → IsStrictlyIncreasing qs
rising_once_sorted ps qs d p s = IsStrictlyIncreasing-from_distinct qs s (IsDistinct-IsPermutation nat_eq nat_eq_equiv.symm ps qs p d)

-- numbers that a sort has put in order don't fall
pub rises_when_sorted : (ns : List ℕ) → IsSorted nat_cmp ns → IsNonDecreasing ns
rises_when_sorted ns h = IsNonDecreasingBy-from_sort (λ n. n) ns h

-- ---- parts of a list

module _ {X : Type 0} (P : X → Type 0) where
  pub all_take : (n : ℕ) (xs : List X) → AllByRecursion P xs → AllByRecursion P (take n xs)
  all_take zero xs a = tt
  all_take (suc n) [] a = tt
  all_take (suc n) (x ∷ xs) a = (a.0, all_take n xs a.1)

  pub all_drop : (n : ℕ) (xs : List X) → AllByRecursion P xs → AllByRecursion P (drop n xs)
  all_drop zero xs a = a
  all_drop (suc n) [] a = tt
  all_drop (suc n) (x ∷ xs) a = all_drop n xs a.1

module _ {X : Type 0} (R : X → X → Ordering) where
  pub sorted_take : (n : ℕ) (xs : List X) → IsStrictlySortedBy R xs → IsStrictlySortedBy R (take n xs)
  unfolding IsStrictlySortedBy
  sorted_take zero xs s = tt
  sorted_take (suc n) [] s = tt
  sorted_take (suc n) (x ∷ xs) s = (all_take (λ y. R x y ≡ Less) n xs s.0, sorted_take n xs s.1)

  pub sorted_drop : (n : ℕ) (xs : List X) → IsStrictlySortedBy R xs → IsStrictlySortedBy R (drop n xs)
  unfolding IsStrictlySortedBy
  sorted_drop zero xs s = s
  sorted_drop (suc n) [] s = tt
  sorted_drop (suc n) (x ∷ xs) s = sorted_drop n xs s.1

-- ---- what is among a filtered list

among_by : (b c : Bool) (f : ℕ → Bool) (n m : ℕ) (ms : List ℕ) → nat_eq n m ≡ b → f m ≡ c → is_among n (filter f ms) ≡ (is_among n ms && f n) → is_among n (cond c (m ∷ filter f ms) (filter f ms)) ≡ ((b || is_among n ms) && f n)
among_by true true f n m ms e g ih =
    let own : f n ≡ true = ap (λ (i : ℕ). f i) (eqb-true n m e) ∙ g in
    rw (e, own) refl
among_by true false f n m ms e g ih =
    let own : f n ≡ false = ap (λ (i : ℕ). f i) (eqb-true n m e) ∙ g in
    ih ∙ (rw own (and_false (is_among n ms)))
  where
    and_false : (b : Bool) → (b && false) ≡ false
    and_false true = refl
    and_false false = refl
among_by false true f n m ms e g ih = rw e ih
among_by false false f n m ms e g ih = ih

pub among-filter : (f : ℕ → Bool) (n : ℕ) (ms : List ℕ) → is_among n (filter f ms) ≡ (is_among n ms && f n)
among-filter f n [] = refl
among-filter f n (m ∷ ms) = among_by (nat_eq n m) (f m) f n m ms refl refl (among-filter f n ms)

-- ---- the sorted places of a range, at a key

-- two parts of a whole, each on its own side
sides_by : (b s t u v : Bool) → (s ≡ true → b ≡ true) → (t ≡ true → b ≡ false) → (u ≡ true → b ≡ true) → (v ≡ true → b ≡ false) → (s || t) ≡ (u || v) → (s ≡ u) × (t ≡ v)
sides_by true s true u v f g h k e = absurd (let l = g refl in cc)
sides_by true s false u true f g h k e = absurd (let l = k refl in cc)
sides_by true true false true false f g h k e = (refl, refl)
sides_by true true false false false f g h k e = absurd (cc)
sides_by true false false true false f g h k e = absurd (cc)
sides_by true false false false false f g h k e = (refl, refl)
sides_by false true t u v f g h k e = absurd (let l = f refl in cc)
sides_by false false t true v f g h k e = absurd (let l = h refl in cc)
sides_by false false t false v f g h k e = (refl, e)

within_below_by : (a b : Bool) → (not a && b) ≡ true → b ≡ true
within_below_by true b h = absurd (cc)
within_below_by false b h = h

within_from_by : (b c : Bool) → (not b && c) ≡ true → b ≡ false
within_from_by true c h = absurd (cc)
within_from_by false c h = refl

neither : (s t : Bool) → (s || t) ≡ false → (s ≡ false) × (t ≡ false)
neither true t h = absurd (cc)
neither false t h = (refl, h)

onward_by : (a b c d e : Bool) → (e ≡ true → d ≡ true) → (((a && d) || (not a && b)) && (b && e)) ≡ (b && e)
onward_by true true c true true f = refl
onward_by true true c true false f = refl
onward_by true true c false true f = absurd (let h = f refl in cc)
onward_by true true c false false f = refl
onward_by true false c true e f = refl
onward_by true false c false e f = refl
onward_by false true c d e f = refl
onward_by false false c d e f = refl

before_earlier : (hi : Option (List ℕ)) (low mid : List ℕ) → order low mid ≡ Less → is_before hi mid ≡ true → is_before hi low ≡ true
before_earlier None low mid l h = refl
before_earlier (Some hi) low mid l h = less_is_below low hi (total.trans low mid hi l (below_is_less mid hi h))

pub none_pass : (b : Bool) → (b && false) ≡ false
none_pass true = refl
none_pass false = refl

-- ---- spans that reach a page

-- one that does begins below its low key
reached_below : (low : List ℕ) (s : Span) → reaches_page low s ≡ true → is_below (first_of s) low ≡ true
reached_below low (One k) h = absurd (cc)
reached_below low (Range lo hi) h = (and_parts (is_below lo low) (is_before hi low) h).0

-- and it begins in the page before that, or reaches it
onward_span : (low mid : List ℕ) (s : Span) → order low mid ≡ Less → ((reaches_page low s || is_within low (Some mid) (first_of s)) && reaches_page mid s) ≡ reaches_page mid s
onward_span low mid (One k) l = none_pass (is_within low (Some mid) k)
onward_span low mid (Range lo hi) l = onward_by (is_below lo low) (is_below lo mid) true (is_before hi low) (is_before hi mid) (before_earlier hi low mid l)

none_reaches : (s : Span) → reaches_page [] s ≡ false
none_reaches (One k) = refl
none_reaches (Range [] hi) = refl
none_reaches (Range (x ∷ xs) hi) = refl

module _ {A : Type 0} (cs : List (Command A)) where
  -- the key of the place is below this one
  abbrev pub IsBelowKey : List ℕ → ℕ → Type 0
  IsBelowKey k place = is_below (key_at cs place) k ≡ true

  abbrev pub IsFromKey : List ℕ → ℕ → Type 0
  IsFromKey k place = is_below (key_at cs place) k ≡ false

  parts_by : (o : Option (Command A)) (low mid : List ℕ) (end : Option (List ℕ)) (n : ℕ) (ms ns : List ℕ) → slice_get cs n ≡ o → order low mid ≡ Less → IsBefore end mid
      → AllByRecursion (IsBelowKey mid) ms → AllByRecursion (IsFromKey mid) ns → (is_among n ms || is_among n ns) ≡ is_some_that (begins_in low end) o
      → (is_among n ms ≡ is_some_that (begins_in low (Some mid)) o) × (is_among n ns ≡ is_some_that (begins_in mid end) o)
  parts_by None low mid end n ms ns p l m a b e = neither (is_among n ms) (is_among n ns) e
  parts_by (Some c) low mid end n ms ns p l m a b e =
      let k = key_of c in
      let at : key_at cs n ≡ k = rw p refl in
      let whole : (is_among n ms || is_among n ns) ≡ (is_within low (Some mid) k || is_within mid end k) = e ∙ within_parts low mid end k l m in
      sides_by (is_below k mid) (is_among n ms) (is_among n ns) (is_within low (Some mid) k) (is_within mid end k)
      (λ h. rw at at (holds_among (IsBelowKey mid) n ms a h)) (λ h. rw at at (holds_among (IsFromKey mid) n ns b h))
      (within_below_by (is_below k low) (is_below k mid)) (within_from_by (is_below k mid) (is_before end k)) whole

  -- the sorted places of a range, parted at a key in it, are those of the ranges on either side
  pub parted_at : (low mid : List ℕ) (end : Option (List ℕ)) (ps : List ℕ) (n : ℕ) → AreSortedWithin low end cs ps → order low mid ≡ Less → IsBefore end mid
      → AllByRecursion (IsBelowKey mid) (take n ps) → AllByRecursion (IsFromKey mid) (drop n ps)
      → AreSortedWithin low (Some mid) cs (take n ps) × AreSortedWithin mid end cs (drop n ps)
  parted_at low mid end ps n h l m a b =
      let joined = λ (i : ℕ). sym (among-append i (take n ps) (drop n ps)) ∙ ap (λ (is : List ℕ). is_among i is) (take-append-drop n ps) ∙ h.own i ∙ among-places i (begins_in low end) cs in
      let each = λ (i : ℕ). parts_by (slice_get cs i) low mid end i (take n ps) (drop n ps) refl l m a b (joined i) in (
        record {
          own = λ i. (each i).0 ∙ sym (among-places i (begins_in low (Some mid)) cs);
          in_order = sorted_take (order_of_places cs) n ps h.in_order;
        },
        record {
          own = λ i. (each i).1 ∙ sym (among-places i (begins_in mid end) cs);
          in_order = sorted_drop (order_of_places cs) n ps h.in_order;
        },
      )

  -- the sorted places of the batch are those of the range of all keys
  pub sorted_within_all : (ps : List ℕ) → AreSortedPlaces cs ps → AreSortedWithin [] None cs ps
  sorted_within_all ps h = record {
    own = λ i. sym (among-permutation i (places_below (length cs)) ps h.all) ∙ ap (λ (is : List ℕ). is_among i is) (sym (all_places cs));
    in_order = h.in_order;
  }

  -- ---- in the order of the batch

  apart_by : (b : Bool) (p q : ℕ) → nat_eq p q ≡ b → order_of_places cs p q ≡ Less → b ≡ false
  apart_by true p q e l = absurd (let t = tied_itself (total_places cs) p in let u = eqb-true p q e in let v : order_of_places cs p p ≡ Less = subst (λ (i : ℕ). order_of_places cs p i ≡ Less) (sym u) l in cc)
  apart_by false p q e l = refl

  apart : (p : ℕ) (qs : List ℕ) → AllByRecursion (λ q. order_of_places cs p q ≡ Less) qs → AllByRecursion (λ q. nat_eq p q ≡ false) qs
  apart p [] a = tt
  apart p (q ∷ qs) a = (apart_by (nat_eq p q) p q refl a.0, apart p qs a.1)

  -- places in key order are each there once
  pub distinct : (ps : List ℕ) → AreInKeyOrder cs ps → IsDistinct nat_eq ps
  unfolding IsStrictlySortedBy IsDistinct
  distinct [] h = tt
  distinct (p ∷ ps) h = (apart p ps h.0, distinct ps h.1)

  -- ---- what begins in a page, and what reaches it

  -- a scan that reaches a page begins below its low key
  reaching_below_by : (low : List ℕ) (o : Option (Command A)) → is_some_that (reaches low) o ≡ true → is_below (key_or_empty o) low ≡ true
  reaching_below_by low None h = absurd (cc)
  reaching_below_by low (Some c) h = reached_below low (span_of c) h

  pub reaching_below : (low : List ℕ) (place : ℕ) → reaches_at cs low place ≡ true → IsBelowKey low place
  reaching_below low place h = reaching_below_by low (slice_get cs place) h

  begun_from_by : (low : List ℕ) (end : Option (List ℕ)) (o : Option (Command A)) → is_some_that (begins_in low end) o ≡ true → is_below (key_or_empty o) low ≡ false
  begun_from_by low end None h = absurd (cc)
  begun_from_by low end (Some c) h = (parts_within low end (key_of c) h).0

  -- what passes is all that is there
  only_passed : (passes : Command A → Bool) (P : ℕ → Type 0) → ((n : ℕ) → is_some_that passes (slice_get cs n) ≡ true → P n) → (ps : List ℕ) → ((n : ℕ) → is_among n ps ≡ is_among n (places_from 0 passes cs)) → AllByRecursion P ps
  only_passed passes P f ps own = all_weaker (λ n. is_among n ps ≡ true) P (λ n h. f n (sym (among-places n passes cs) ∙ sym (own n) ∙ h)) ps (all_among ps)

  pub all_reaching_below : (low : List ℕ) (rs : List ℕ) → AreSortedReaching low cs rs → AllByRecursion (IsBelowKey low) rs
  all_reaching_below low rs h = only_passed (reaches low) (IsBelowKey low) (reaching_below low) rs h.own

  pub all_begun_from : (low : List ℕ) (end : Option (List ℕ)) (ps : List ℕ) → AreSortedWithin low end cs ps → AllByRecursion (IsFromKey low) ps
  all_begun_from low end ps h = only_passed (begins_in low end) (IsFromKey low) (λ n. begun_from_by low end (slice_get cs n)) ps h.own

  before_all : (low : List ℕ) (r : ℕ) (ps : List ℕ) → IsBelowKey low r → AllByRecursion (IsFromKey low) ps → AllByRecursion (λ p. order_of_places cs r p ≡ Less) ps
  before_all low r [] h a = tt
  before_all low r (p ∷ ps) h a = (rw (less_through (key_at cs r) (key_at cs p) low h a.0) refl, before_all low r ps h a.1)

  -- places below a key, followed by places from that key on, are in order
  pub in_order-append : (low : List ℕ) (rs ps : List ℕ) → AllByRecursion (IsBelowKey low) rs → AllByRecursion (IsFromKey low) ps → AreInKeyOrder cs rs → AreInKeyOrder cs ps → AreInKeyOrder cs (rs ++ ps)
  unfolding IsStrictlySortedBy
  in_order-append low [] ps a b s t = t
  in_order-append low (r ∷ rs) ps a b s t =
      (all-append (λ p. order_of_places cs r p ≡ Less) rs ps s.0 (before_all low r ps a.0 b), in_order-append low rs ps a.1 b s.1 t)

  both_go : (low : List ℕ) (end : Option (List ℕ)) (o : Option (Command A)) → (is_some_that (reaches low) o || is_some_that (begins_in low end) o) ≡ is_some_that (goes_to low end) o
  both_go low end None = refl
  both_go low end (Some c) = or_turned (reaches low c) (begins_in low end c) ∙ sym (goes_as low end c)

  -- what is among those that reach a page and those that begin in it
  pub among_both : (low : List ℕ) (end : Option (List ℕ)) (rs ps : List ℕ) → AreSortedReaching low cs rs → AreSortedWithin low end cs ps → (n : ℕ) → is_among n (rs ++ ps) ≡ is_among n (places_within low end cs)
  among_both low end rs ps r h n =
      among-append n rs ps
      ∙ rw (r.own n, h.own n, among-places n (reaches low) cs, among-places n (begins_in low end) cs, among-places n (goes_to low end) cs) (both_go low end (slice_get cs n))

  pub both_in_order : (low : List ℕ) (end : Option (List ℕ)) (rs ps : List ℕ) → AreSortedReaching low cs rs → AreSortedWithin low end cs ps → AreInKeyOrder cs (rs ++ ps)
  both_in_order low end rs ps r h = in_order-append low rs ps (all_reaching_below low rs r) (all_begun_from low end ps h) r.in_order h.in_order

  -- the sorted places of a page, in the order of the batch, are its places
  pub in_batch_order : (low : List ℕ) (end : Option (List ℕ)) (rs ps qs : List ℕ) → AreSortedReaching low cs rs → AreSortedWithin low end cs ps → IsPermutation (rs ++ ps) qs → IsNonDecreasing qs → qs ≡ places_within low end cs
  in_batch_order low end rs ps qs r h p s =
      let rising = sorted_from_strictly_increasing qs (rising_once_sorted (rs ++ ps) qs (distinct (rs ++ ps) (both_in_order low end rs ps r h)) p s) in
      same_sorted nat_cmp nat_cmp_total same_number qs (places_within low end cs) (λ i. sym (among-permutation i (rs ++ ps) qs p) ∙ among_both low end rs ps r h i) rising (rising-places_from 0 (goes_to low end) cs)

  -- ---- which of them continue

  -- what reaches a page begins in the one before it, or reaches that
  onward_is : (low mid : List ℕ) (o : Option (Command A)) → order low mid ≡ Less → ((is_some_that (reaches low) o || is_some_that (begins_in low (Some mid)) o) && is_some_that (reaches mid) o) ≡ is_some_that (reaches mid) o
  onward_is low mid None l = refl
  onward_is low mid (Some c) l = onward_span low mid (span_of c) l

  -- of those of a page, the ones that reach the next page are all that do
  pub onward : (low mid : List ℕ) (rs ps : List ℕ) → AreSortedReaching low cs rs → AreSortedWithin low (Some mid) cs ps → order low mid ≡ Less → AreSortedReaching mid cs (filter (reaches_at cs mid) (rs ++ ps))
  onward low mid rs ps r h l = record {
    own = λ n.
        among-filter (reaches_at cs mid) n (rs ++ ps)
        ∙ ap (λ (b : Bool). b && reaches_at cs mid n) (among-append n rs ps)
        ∙ rw (r.own n, h.own n, among-places n (reaches low) cs, among-places n (begins_in low (Some mid)) cs, among-places n (reaches mid) cs) (onward_is low mid (slice_get cs n) l);
    in_order = IsStrictlySortedBy-filter (order_of_places cs) (reaches_at cs mid) (rs ++ ps) (both_in_order low (Some mid) rs ps r h);
  }

  pub none_reach_by : (o : Option (Command A)) → is_some_that (reaches []) o ≡ false
  none_reach_by None = refl
  none_reach_by (Some c) = none_reaches (span_of c)

  -- nothing reaches the page of the least keys
  pub none_reach : AreSortedReaching [] cs []
  unfolding IsStrictlySortedBy
  none_reach = record { own = λ n. sym (among-places n (reaches []) cs ∙ none_reach_by (slice_get cs n)); in_order = tt }

  -- ---- binary search

  below_by : (o : Ordering) (p q : ℕ) (k : List ℕ) → order (key_at cs p) (key_at cs q) ≡ o → ordering_then o (nat_cmp p q) ≡ Less → IsBelowKey k q → IsBelowKey k p
  below_by Less p q k e l h = rw (total.trans (key_at cs p) (key_at cs q) k e (below_is_less (key_at cs q) k h)) refl
  below_by Equal p q k e l h = rw (total.congr (key_at cs p) (key_at cs q) k e) h
  below_by Greater p q k e l h = absurd (cc)

  pub earlier_below : (p q : ℕ) (k : List ℕ) → order_of_places cs p q ≡ Less → IsBelowKey k q → IsBelowKey k p
  earlier_below p q k l h = below_by (order (key_at cs p) (key_at cs q)) p q k refl l h

  -- among places in key order, those below a key come first
  pub parted_by_key : (k : List ℕ) (ps : List ℕ) → AreInKeyOrder cs ps → IsPartitionedBy (λ place. is_below (key_at cs place) k) ps
  parted_by_key k ps s = λ i j d l w h. elim (cases_lt i j) [
    | inl b ↦ earlier_below (get_or ps i d) (get_or ps j d) k (Less-from_sorted (order_of_places cs) ps i j d s b w) h
    | inr b ↦ (let same : i ≡ j = omega arith in rw same h)
  ]

module _ {X : Type 0} (P Q : X → Type 0) where
  -- what holds on either side of a place, of the lists on either side
  pub all_before : (ps : List X) (n : ℕ) → IsPartitionPoint P Q ps n → n ≤ length ps → AllByRecursion P (take n ps)
  all_before ps n h l =
      recursion_from_All P (take n ps) (λ k d b.
      let r : k < n = omega (arith, length-take n ps) in
      rw (get_or-take n ps k d r) (h.0 k d (omega arith) r))

  pub all_after : (ps : List X) (n : ℕ) → IsPartitionPoint P Q ps n → n ≤ length ps → AllByRecursion Q (drop n ps)
  all_after ps n h l =
      recursion_from_All Q (drop n ps) (λ k d b.
      let r : n + k < length ps = omega (arith, length-drop n ps) in
      rw (get_or-drop n ps k d) (h.1 (n + k) d (omega arith) r))

module _ {X : Type 0} (f : X → Bool) where
  abbrev AllPass : List X → Type 0
  AllPass xs = AllByRecursion (λ x. f x ≡ true) xs

  abbrev NonePass : List X → Type 0
  NonePass xs = AllByRecursion (λ x. f x ≡ false) xs

  -- if the items that pass come first in a list, they do in every part of it
  pub parted_part : (xs : List X) (low high : ℕ) → IsPartitionedBy f xs → high ≤ length xs → IsPartitionedBy f (slice_range xs low high)
  parted_part xs low high p h = λ i j d l w t.
      let many = length-take (high - low) (drop low xs) in
      let b : j < high - low = omega arith in
      let a : i < high - low = omega arith in
      let at : f (get_or xs (low + j) d) ≡ true = rw (get_or-take (high - low) (drop low xs) j d b, get_or-drop low xs j d) at t in
      rw (get_or-take (high - low) (drop low xs) i d a, get_or-drop low xs i d) (p (low + i) (low + j) d (omega arith) (omega arith) at)

  -- what passes up to a place that does
  pub pass_upto : (xs : List X) (i : ℕ) (d : X) (b : Bool) → IsPartitionedBy f xs → i < length xs → b ≡ f (get_or xs i d) → b ≡ true → AllPass (take (i + 1) xs)
  pass_upto xs i d b p l h t =
      recursion_from_All (λ x. f x ≡ true) (take (i + 1) xs) (λ k e w.
      let r : k < i + 1 = omega (arith, length-take (i + 1) xs) in
      let at : f (get_or xs i e) ≡ true = rw (get_or_default xs i e d l) (sym h ∙ t) in
      rw (get_or-take (i + 1) xs k e r) (p k i e (omega arith) l at))

  -- what doesn't from a place on that doesn't
  pub none_from : (xs : List X) (i : ℕ) (d : X) (b : Bool) → IsPartitionedBy f xs → i < length xs → b ≡ f (get_or xs i d) → b ≡ false → NonePass (drop i xs)
  none_from xs i d b p l h t =
      recursion_from_All (λ x. f x ≡ false) (drop i xs) (λ k e w.
      let r : i + k < length xs = omega (arith, length-drop i xs) in
      let at : f (get_or xs i e) ≡ false = rw (get_or_default xs i e d l) (sym h ∙ t) in
      rw (get_or-drop i xs k e) (none_by (f (get_or xs (i + k) e)) refl (λ u. p i (i + k) e (omega arith) r u) at))
    where
      none_by : {y z : X} (b : Bool) → f y ≡ b → (f y ≡ true → f z ≡ true) → f z ≡ false → f y ≡ false
      none_by true e g n = absurd (let t = g e in cc)
      none_by false e g n = e

  -- if those before a stretch pass and those after it don't, a cut of the stretch is one of the whole
  cut_within : (ss ds : List X) (n : ℕ) → n ≤ length ss → AllPass (take n ss) → NonePass (drop n ss) → NonePass ds → AllPass (take n (ss ++ ds)) × NonePass (drop n (ss ++ ds))
  cut_within ss ds zero l a b e = (tt, all-append (λ x. f x ≡ false) ss ds b e)
  cut_within [] ds (suc n) l a b e = absurd (omega arith)
  cut_within (s ∷ ss) ds (suc n) l a b e = let m : n ≤ length ss = omega arith in let r = cut_within ss ds n m a.1 b e in ((a.0, r.0), r.1)

  cut_after : (front ys : List X) (m n : ℕ) → m ≡ length front + n → AllPass front → AllPass (take n ys) × NonePass (drop n ys) → AllPass (take m (front ++ ys)) × NonePass (drop m (front ++ ys))
  cut_after [] ys m n e a h = let same : m ≡ n = omega arith in rw same h
  cut_after (x ∷ front) ys zero n e a h = absurd (omega arith)
  cut_after (x ∷ front) ys (suc m) n e a h = let less : m ≡ length front + n = omega arith in let r = cut_after front ys m n less a.1 h in ((a.0, r.0), r.1)

  pub cut_at : (xs : List X) (low high n : ℕ) → low ≤ high → high ≤ length xs → AllPass (take low xs) → NonePass (drop high xs) → n ≤ length (slice_range xs low high)
      → IsPartitionPoint (λ x. f x ≡ true) (λ x. f x ≡ false) (slice_range xs low high) n → AllPass (take (low + n) xs) × NonePass (drop (low + n) xs)
  cut_at xs low high n l h a b m p =
      let ss = slice_range xs low high in
      let parts : take low xs ++ (ss ++ drop high xs) ≡ xs = ap (λ (ys : List X). take low xs ++ ys) (sym (drop_split xs low high l)) ∙ take-append-drop low xs in
      let many : low + n ≡ length (take low xs) + n = omega (arith, length-take low xs) in
      let cut = cut_after (take low xs) (ss ++ drop high xs) (low + n) n many a (cut_within ss (drop high xs) n m (all_before (λ x. f x ≡ true) (λ x. f x ≡ false) ss n p m) (all_after (λ x. f x ≡ true) (λ x. f x ≡ false) ss n p m) b) in
      rw parts at cut
