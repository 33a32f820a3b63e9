-- The result of a binary search among slots by rising pid, and the fact that a slot's index is at most its pid.
use Rattle.std.specs.Prelude.{◌≡◌, ◌≢◌, ℕ, zero, suc, ◌+◌, ◌<◌, ◌≤◌, List, [], ◌∷◌, ◌++◌, map, take, drop, length, get_or, slice_get, Some, Result, Ok, Err, MatchResult}
use Rattle.std.proofs.Common.{sym, ap, ◌∙◌, arith, subst}
use Rattle.std.specs.List.{AllByRecursion}
use Rattle.std.specs.List.Sorted.{IsSearchInRange, IsBinarySearchResult, IsNonDecreasingBy}
use Rattle.std.specs.Ordering.{nat_cmp, ordering_index}
use Rattle.std.proofs.lemmas.Cmp.{ranked}
use Rattle.std.proofs.lemmas.Bool.Decides.{nat_tests}
use Rattle.std.proofs.lemmas.List.{take-map, drop-map, take-append-drop, take-take, drop_more, drop-append-le, length-map, length-take-le, get_or-map}
use Rattle.index_page.proofs.ListLemmas.{all-append}
use Rattle.mapping.specs.Proper.{AreRisingPids}
use Rattle.mapping.specs.Slots.{StandsAt, GoesTo}
use Rattle.mapping.proofs.PidLemmas.{below_later}

-- ---- binary search

module _ {S : Type 0} (pid : S → ℕ) where
  all_places : (P : S → Type 0) (ss : List S) → ((j : ℕ) (d : S) → j < length ss → P (get_or ss j d)) → AllByRecursion P ss
  all_places P [] h = tt
  all_places P (s ∷ ss) h = (h 0 s (omega arith), all_places P ss (λ j d l. h (suc j) d (omega arith)))

  all_front : (P : S → Type 0) (i : ℕ) (ss : List S) → ((j : ℕ) (d : S) → j < i → P (get_or ss j d)) → AllByRecursion P (take i ss)
  all_front P zero ss h = tt
  all_front P (suc i) [] h = tt
  all_front P (suc i) (s ∷ ss) h = (h 0 s (omega arith), all_front P i ss (λ j d l. h (suc j) d (omega arith)))

  all_back : (P : S → Type 0) (i : ℕ) (ss : List S) → ((j : ℕ) (d : S) → i ≤ j → j < length ss → P (get_or ss j d)) → AllByRecursion P (drop i ss)
  all_back P zero ss h = all_places P ss (λ j d l. h j d (omega arith) l)
  all_back P (suc i) [] h = tt
  all_back P (suc i) (s ∷ ss) h = all_back P i ss (λ j d l m. h (suc j) d (omega arith) (omega arith))

  all_pids : (P : ℕ → Type 0) (ss : List S) → AllByRecursion (λ s. P (pid s)) ss → AllByRecursion P (map pid ss)
  all_pids P [] a = tt
  all_pids P (s ∷ ss) a = (a.0, all_pids P ss a.1)

  at_place : (P : ℕ → Type 0) (ss : List S) (j : ℕ) (d : S) → AllByRecursion P (map pid ss) → j < length ss → P (pid (get_or ss j d))
  at_place P [] j d a l = absurd (omega arith)
  at_place P (s ∷ ss) zero d a l = a.0
  at_place P (s ∷ ss) (suc j) d a l = at_place P ss j d a.1 (omega arith)

  pids_rise : (ss : List S) (i j : ℕ) (d : S) → AreRisingPids (map pid ss) → i ≤ j → j < length ss → pid (get_or ss i d) ≤ pid (get_or ss j d)
  pids_rise [] i j d r h l = absurd (omega arith)
  pids_rise (s ∷ ss) zero zero d r h l = omega arith
  pids_rise (s ∷ ss) zero (suc j) d r h l = let x = at_place (λ n. pid s < n) ss j d r.0 (omega arith) in omega arith
  pids_rise (s ∷ ss) (suc i) zero d r h l = absurd (omega arith)
  pids_rise (s ∷ ss) (suc i) (suc j) d r h l = pids_rise ss i j d r.1 (omega arith) (omega arith)

  index_rises : (k m n : ℕ) → m ≤ n → ordering_index (nat_cmp m k) ≤ ordering_index (nat_cmp n k)
  index_rises k m n h = grind (arith, nat_tests)

  comparisons_rise : (ss : List S) (k : ℕ) → AreRisingPids (map pid ss) → IsNonDecreasingBy (λ s. ordering_index (nat_cmp (pid s) k)) ss
  comparisons_rise ss k r i j d h l = index_rises k (pid (get_or ss i d)) (pid (get_or ss j d)) (pids_rise ss i j d r h l)

  stands_at : (ss : List S) (k i : ℕ) → ((d : S) → pid (get_or ss i d) ≡ k) → i < length ss → StandsAt (map pid ss) k i
  stands_at [] k i h l = absurd (omega arith)
  stands_at (s ∷ ss) k zero h l = ap (λ (n : ℕ). Some n) (h s)
  stands_at (s ∷ ss) k (suc i) h l = stands_at ss k i h (omega arith)

  -- a binary search ends at the pid's slot, or where it would be inserted
  pub searched : (ss : List S) (k : ℕ) (r : Result ℕ ℕ) → AreRisingPids (map pid ss) → IsSearchInRange r (length ss) → IsBinarySearchResult (λ s. nat_cmp (pid s) k) ss r → MatchResult r (StandsAt (map pid ss) k) (GoesTo (map pid ss) k)
  searched ss k (Ok at) r within equal = stands_at ss k at (λ d. ranked (pid (get_or ss at d)) k _ (sym (equal d))) within
  searched ss k (Err at) r within parted =
      let both = parted (comparisons_rise ss k r) in
      let below = all_pids (λ n. n < k) (take at ss) (all_front (λ s. pid s < k) at ss (λ j d l. ranked (pid (get_or ss j d)) k _ (sym (both.0 j d (omega arith) l)))) in
      let above = all_pids (λ n. k < n) (drop at ss) (all_back (λ s. k < pid s) at ss (λ j d l m. ranked (pid (get_or ss j d)) k _ (sym (both.1 j d l m)))) in
      record {
        within = let x = length-map ss pid in omega arith;
        below = subst (λ (ns : List ℕ). AllByRecursion (λ n. n < k) ns) (sym (take-map pid at ss)) below;
        above = subst (λ (ns : List ℕ). AllByRecursion (λ n. k < n) ns) (sym (drop-map pid at ss)) above;
      }

-- ---- at its own number at the latest

all_take : (P : ℕ → Type 0) (n : ℕ) (ns : List ℕ) → AllByRecursion P ns → AllByRecursion P (take n ns)
all_take P zero ns a = tt
all_take P (suc n) [] a = tt
all_take P (suc n) (m ∷ ns) a = (a.0, all_take P n ns a.1)

rising_take : (n : ℕ) (ns : List ℕ) → AreRisingPids ns → AreRisingPids (take n ns)
rising_take zero ns r = tt
rising_take (suc n) [] r = tt
rising_take (suc n) (m ∷ ns) r = (all_take (λ k. m < k) n ns r.0, rising_take n ns r.1)

pub rising_front : {S : Type 0} (pid : S → ℕ) (n : ℕ) (ss : List S) → AreRisingPids (map pid ss) → AreRisingPids (map pid (take n ss))
rising_front pid n ss r = subst (λ (ns : List ℕ). AreRisingPids ns) (take-map pid n ss) (rising_take n (map pid ss) r)

rising_drop : (n : ℕ) (ns : List ℕ) → AreRisingPids ns → AreRisingPids (drop n ns)
rising_drop zero ns r = r
rising_drop (suc n) [] r = tt
rising_drop (suc n) (m ∷ ns) r = rising_drop n ns r.1

at_least : (k m : ℕ) (ns : List ℕ) → k ≤ m → AllByRecursion (λ i. m ≤ i) ns → AllByRecursion (λ i. k ≤ i) ns
at_least k m [] h a = tt
at_least k m (n ∷ ns) h a = (let x = a.0 in omega arith, at_least k m ns h a.1)

above_next : (m n : ℕ) (ns : List ℕ) → m ≤ n → AllByRecursion (λ i. n < i) ns → AllByRecursion (λ i. suc m ≤ i) ns
above_next m n [] h a = tt
above_next m n (k ∷ ns) h a = (let x = a.0 in omega arith, above_next m n ns h a.1)

-- no pid has an index greater than itself
following : (n m k : ℕ) (ns : List ℕ) → k ≤ m + n → AreRisingPids ns → AllByRecursion (λ i. m ≤ i) ns → AllByRecursion (λ i. k ≤ i) (drop n ns)
following zero m k ns h r a = at_least k m ns (omega arith) a
following (suc n) m k [] h r a = tt
following (suc n) m k (i ∷ ns) h r a = following n (suc m) k ns (omega arith) r.1 (above_next m i ns a.0 r.0)

all_from_zero : (ns : List ℕ) → AllByRecursion (λ i. 0 ≤ i) ns
all_from_zero [] = tt
all_from_zero (n ∷ ns) = (omega arith, all_from_zero ns)

all_above : (k n : ℕ) (ns : List ℕ) → AreRisingPids (n ∷ ns) → k ≤ n → n ≢ k → AllByRecursion (λ i. k < i) (n ∷ ns)
all_above k n ns r h d = let l : k < n = omega arith in (l, below_later k n ns l r.0)

-- if a pid is not at the index equal to it, all pids from that index on are greater
above_from : (k : ℕ) (ns : List ℕ) → AreRisingPids ns → k < length ns → get_or ns k 0 ≢ k → AllByRecursion (λ i. k < i) (drop k ns)
above_from k ns r l d =
    let e : drop k ns ≡ get_or ns k 0 ∷ drop (k + 1) ns = drop_more ns k 0 l in
    let rising : AreRisingPids (get_or ns k 0 ∷ drop (k + 1) ns) = subst (λ (is : List ℕ). AreRisingPids is) e (rising_drop k ns r) in
    let from : AllByRecursion (λ i. k ≤ i) (get_or ns k 0 ∷ drop (k + 1) ns) =
    subst (λ (is : List ℕ). AllByRecursion (λ i. k ≤ i) is) e (following k 0 k ns (omega arith) r (all_from_zero ns)) in
    subst (λ (is : List ℕ). AllByRecursion (λ i. k < i) is) (sym e) (all_above k (get_or ns k 0) (drop (k + 1) ns) rising from.0 d)

slice_get_front : (n : ℕ) (ns : List ℕ) (i k : ℕ) → slice_get (take n ns) i ≡ Some k → slice_get ns i ≡ Some k
slice_get_front zero ns i k e = absurd (cc)
slice_get_front (suc n) [] i k e = e
slice_get_front (suc n) (m ∷ ns) zero k e = e
slice_get_front (suc n) (m ∷ ns) (suc i) k e = slice_get_front n ns i k e

drop_parts : (at n : ℕ) (ns : List ℕ) → at ≤ n → n ≤ length ns → drop at ns ≡ drop at (take n ns) ++ drop n ns
drop_parts at n ns h l =
    let x : length (take n ns) ≡ n = length-take-le n ns l in
    ap (drop at) (sym (take-append-drop n ns)) ∙ drop-append-le at (take n ns) (drop n ns) (omega arith)

near_by : (ns : List ℕ) (k : ℕ) (r : Result ℕ ℕ) → AreRisingPids ns → k < length ns → get_or ns k 0 ≢ k
    → MatchResult r (StandsAt (take k ns) k) (GoesTo (take k ns) k) → MatchResult r (StandsAt ns k) (GoesTo ns k)
near_by ns k (Ok at) rising l d found = slice_get_front k ns at k found
near_by ns k (Err at) rising l d goes =
    let x : length (take k ns) ≡ k = length-take-le k ns (omega arith) in
    let within : at ≤ k = let y = goes.within in omega arith in
    record {
      within = omega arith;
      below = subst (λ (is : List ℕ). AllByRecursion (λ n. n < k) is) (take-take at k ns within) goes.below;
      above = subst (λ (is : List ℕ). AllByRecursion (λ n. k < n) is) (sym (drop_parts at k ns within (omega arith)))
          (all-append (λ n. k < n) (drop at (take k ns)) (drop k ns) goes.above (above_from k ns rising l d));
    }

-- a pid that is not at the index equal to it is before that index, or would be inserted before it
pub near_searched : {S : Type 0} (pid : S → ℕ) (ss : List S) (k : ℕ) (d : S) (r : Result ℕ ℕ) → AreRisingPids (map pid ss) → k < length ss → pid (get_or ss k d) ≢ k
    → MatchResult r (StandsAt (map pid (take k ss)) k) (GoesTo (map pid (take k ss)) k) → MatchResult r (StandsAt (map pid ss) k) (GoesTo (map pid ss) k)
near_searched pid ss k d r rising within apart found =
    let l : length (map pid ss) ≡ length ss = length-map ss pid in
    near_by (map pid ss) k r rising (omega arith) (λ e. apart (sym (get_or-map pid ss k d 0 within) ∙ e))
    (subst (λ (is : List ℕ). MatchResult r (StandsAt is k) (GoesTo is k)) (sym (take-map pid k ss)) found)
