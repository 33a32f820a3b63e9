-- Lemmas on the places of the commands that go to a page, and on the routes of a level, for the proofs of this crate and
-- of those above it.
use Rattle.std.specs.Prelude.{◌≡◌, ◌≢◌, ℕ, zero, suc, ◌+◌, ◌<◌, ◌≤◌, Bool, true, false, not, ◌&&◌, ◌||◌, cond, ◌⊎◌, List, [], ◌∷◌, ◌++◌, map, flat_map, length, slice_get, nat_eq, count_by, Option, Some, None}
use Rattle.std.proofs.Common.{refl, sym, ap, ◌∙◌, subst, arith, add-one, inl, inr, Less, eqb-true, eq-eqb}
use Rattle.std.specs.Ordering.{nat_cmp}
use Rattle.std.specs.Cmp.{nat_cmp_is}
use Rattle.std.specs.List.{AllByRecursion, filter, range_with_len}
use Rattle.std.specs.List.Sorted.{IsStrictlySortedBy}
use Rattle.std.proofs.lemmas.List.Sums.{sum_by-cons, sum_by-append}
use Rattle.std.proofs.lemmas.Map.Keys.{IsStrictlyIncreasing-from_sorted}
use Rattle.keys.specs.Order.{order}
use Rattle.keys.proofs.MapLemmas.{total}
use Rattle.keys.specs.CommandKey.{key_of, is_ranged}
use Rattle.keys.specs.Footprint.{Span, One, Range, span_of, first_of, is_range}
use Rattle.keys.specs.Places.{is_some_that}
use Rattle.keys.specs.declared.command.Command.{Command}
use Rattle.index_page.specs.Range.{is_below, is_before, is_within, IsBefore}
use Rattle.index_page.specs.Children.{Place, children}
use Rattle.index_page.proofs.ListLemmas.{all-append, all_weaker}
use Rattle.index_page.proofs.RangeLemmas.{less_is_below, below_is_less}
use Rattle.mapping.specs.Levels.{Placed, names}
use Rattle.mapping.specs.FreshPids.{is_among}
use Rattle.mapping.specs.Proper.{next_low, Tiled}
use Rattle.mapping.proofs.PidLemmas.{all_among}
use Rattle.mapping.proofs.TileLemmas.{low_is_before}
use Rattle.routing.specs.Places.{places_below}
use Rattle.routing.specs.SortedPlaces.{begins_in, reaches_page, reaches}
use Rattle.routing.specs.Routes.{meets_page, goes_to, goes_at, places_from, places_within, Route, route_to, has_places, ranges, routes, AreRoutesTo}
use Rattle.routing.specs.Routes.AreRoutesTo.{none, next, left_out}

-- ---- numbers that rise

pub nat_less : (m n : ℕ) → m < n → nat_cmp m n ≡ Less
nat_less m n h = sym (nat_cmp_is m n Less h)

range_from : (m a n : ℕ) → m ≤ a → AllByRecursion (λ i. m ≤ i) (range_with_len a n)
range_from m a zero h = tt
range_from m a (suc n) h = (h, range_from m (a + 1) n (omega arith))

less_from : (m : ℕ) (ns : List ℕ) → AllByRecursion (λ i. m + 1 ≤ i) ns → AllByRecursion (λ i. nat_cmp m i ≡ Less) ns
less_from m [] a = tt
less_from m (n ∷ ns) a = let h = a.0 in (nat_less m n (omega arith), less_from m ns a.1)

pub rising-range : (a n : ℕ) → IsStrictlySortedBy nat_cmp (range_with_len a n)
unfolding IsStrictlySortedBy
rising-range a zero = tt
rising-range a (suc n) = (less_from a (range_with_len (a + 1) n) (range_from (a + 1) (a + 1) n (omega arith)), rising-range (a + 1) n)

-- ---- the places of what passes

shifted_by : (b : Bool) (n : ℕ) (ns ms : List ℕ) → ns ≡ map suc ms → cond b (suc n ∷ ns) ns ≡ map suc (cond b (n ∷ ms) ms)
shifted_by true n ns ms e = ap (λ (is : List ℕ). suc n ∷ is) e
shifted_by false n ns ms e = e

from_by : (b : Bool) (m n : ℕ) (ns : List ℕ) → m ≤ n → AllByRecursion (λ i. m ≤ i) ns → AllByRecursion (λ i. m ≤ i) (cond b (n ∷ ns) ns)
from_by true m n ns h a = (h, a)
from_by false m n ns h a = a

rising_by : (b : Bool) (n : ℕ) (ns : List ℕ) → AllByRecursion (λ i. n + 1 ≤ i) ns → IsStrictlySortedBy nat_cmp ns → IsStrictlySortedBy nat_cmp (cond b (n ∷ ns) ns)
unfolding IsStrictlySortedBy
rising_by true n ns a r = (less_from n ns a, r)
rising_by false n ns a r = r

below_by : (b : Bool) (m n : ℕ) (ns : List ℕ) → n < m → AllByRecursion (λ i. i < m) ns → AllByRecursion (λ i. i < m) (cond b (n ∷ ns) ns)
below_by true m n ns h a = (h, a)
below_by false m n ns h a = a

module _ {X : Type 0} where
  -- places that are counted from the next number on
  pub places_from-suc : (n : ℕ) (passes : X → Bool) (xs : List X) → places_from (suc n) passes xs ≡ map suc (places_from n passes xs)
  places_from-suc n passes [] = refl
  places_from-suc n passes (x ∷ xs) = shifted_by (passes x) n (places_from (suc (suc n)) passes xs) (places_from (suc n) passes xs) (places_from-suc (suc n) passes xs)

  from_number : (m n : ℕ) (passes : X → Bool) (xs : List X) → m ≤ n → AllByRecursion (λ i. m ≤ i) (places_from n passes xs)
  from_number m n passes [] h = tt
  from_number m n passes (x ∷ xs) h = from_by (passes x) m n (places_from (suc n) passes xs) h (from_number m (suc n) passes xs (omega arith))

  -- the places rise
  pub rising-places_from : (n : ℕ) (passes : X → Bool) (xs : List X) → IsStrictlySortedBy nat_cmp (places_from n passes xs)
  unfolding IsStrictlySortedBy
  rising-places_from n passes [] = tt
  rising-places_from n passes (x ∷ xs) = rising_by (passes x) n (places_from (suc n) passes xs) (from_number (n + 1) (suc n) passes xs (omega arith)) (rising-places_from (suc n) passes xs)

  -- and are below the number of all
  pub below-places_from : (m n : ℕ) (passes : X → Bool) (xs : List X) → n + length xs ≤ m → AllByRecursion (λ i. i < m) (places_from n passes xs)
  below-places_from m n passes [] h = tt
  below-places_from m n passes (x ∷ xs) h = below_by (passes x) m n (places_from (suc n) passes xs) (omega arith) (below-places_from m (suc n) passes xs (omega arith))

  -- if all pass, they are all places
  pub places_from-all : (n : ℕ) (passes : X → Bool) (xs : List X) → ((x : X) → passes x ≡ true) → places_from n passes xs ≡ range_with_len n (length xs)
  places_from-all n passes [] h = refl
  places_from-all n passes (x ∷ xs) h = let t = h x in rw (t, places_from-all (suc n) passes xs h, add-one) refl

-- ---- what is among the places of what passes

eqb_itself : (n : ℕ) → nat_eq n n ≡ true
eqb_itself n = eq-eqb n n refl

same_by : (b c : Bool) (m n : ℕ) → nat_eq m n ≡ b → nat_eq (suc m) (suc n) ≡ c → c ≡ b
same_by true true m n e f = refl
same_by true false m n e f = absurd (let t = eqb-true m n e in let u : nat_eq (suc m) (suc m) ≡ false = rw (← t) at f in let v = eqb_itself (suc m) in cc)
same_by false true m n e f = absurd (let t = eqb-true (suc m) (suc n) f in let u : m ≡ n = omega arith in let w : nat_eq m m ≡ false = rw (← u) at e in let v = eqb_itself m in cc)
same_by false false m n e f = refl

among-suc : (n : ℕ) (ms : List ℕ) → is_among (suc n) (map suc ms) ≡ is_among n ms
among-suc n [] = refl
among-suc n (m ∷ ms) = rw (same_by (nat_eq n m) (nat_eq (suc n) (suc m)) n m refl refl, among-suc n ms) refl

apart_by : (b : Bool) (m n : ℕ) → nat_eq m n ≡ b → m ≢ n → b ≡ false
apart_by true m n e h = absurd (h (eqb-true m n e))
apart_by false m n e h = refl

zero_among : (ms : List ℕ) → is_among 0 (map suc ms) ≡ false
zero_among [] = refl
zero_among (m ∷ ms) = let e : nat_eq 0 (suc m) ≡ false = apart_by (nat_eq 0 (suc m)) 0 (suc m) refl (λ h. omega arith) in rw e (zero_among ms)

first_among_by : (b : Bool) (ms : List ℕ) → is_among 0 ms ≡ false → is_among 0 (cond b (0 ∷ ms) ms) ≡ b
first_among_by true ms h = refl
first_among_by false ms h = h

later_among_by : (b : Bool) (n : ℕ) (ms : List ℕ) → is_among (suc n) (cond b (0 ∷ ms) ms) ≡ is_among (suc n) ms
later_among_by true n ms = let e : nat_eq (suc n) 0 ≡ false = apart_by (nat_eq (suc n) 0) (suc n) 0 refl (λ h. omega arith) in rw e refl
later_among_by false n ms = refl

-- a place is among the places of the passing items if and only if its item passes
pub among-places : {X : Type 0} (n : ℕ) (passes : X → Bool) (xs : List X) → is_among n (places_from 0 passes xs) ≡ is_some_that passes (slice_get xs n)
among-places n passes [] = refl
among-places zero passes (x ∷ xs) = first_among_by (passes x) (places_from 1 passes xs) (rw (places_from-suc 0 passes xs) (zero_among (places_from 0 passes xs)))
among-places (suc n) passes (x ∷ xs) =
    later_among_by (passes x) n (places_from 1 passes xs) ∙ ap (λ (is : List ℕ). is_among (suc n) is) (places_from-suc 0 passes xs) ∙ among-suc n (places_from 0 passes xs) ∙ among-places n passes xs

-- ---- how often a place is among them

abbrev pub count_of : ℕ → List ℕ → ℕ
count_of n ms = count_by (λ m. nat_eq m n) ms

counted : (n : ℕ) (m : ℕ) (ms : List ℕ) → count_of n (m ∷ ms) ≡ cond (nat_eq m n) 1 0 + count_of n ms
counted n m ms = sum_by-cons (λ i. cond (nat_eq i n) 1 0) m ms

count-suc : (n : ℕ) (ms : List ℕ) → count_of (suc n) (map suc ms) ≡ count_of n ms
count-suc n [] = refl
count-suc n (m ∷ ms) =
    counted (suc n) (suc m) (map suc ms)
    ∙ rw (same_by (nat_eq m n) (nat_eq (suc m) (suc n)) m n refl refl, count-suc n ms) (sym (counted n m ms))

zero_counted : (ms : List ℕ) → count_of 0 (map suc ms) ≡ 0
zero_counted [] = refl
zero_counted (m ∷ ms) =
    let e : nat_eq (suc m) 0 ≡ false = apart_by (nat_eq (suc m) 0) (suc m) 0 refl (λ h. omega arith) in
    counted 0 (suc m) (map suc ms) ∙ rw (e, zero_counted ms) refl

first_counted_by : (b : Bool) (ms : List ℕ) → count_of 0 ms ≡ 0 → count_of 0 (cond b (0 ∷ ms) ms) ≡ cond b 1 0
first_counted_by true ms h = counted 0 0 ms ∙ rw h refl
first_counted_by false ms h = h

later_counted_by : (b : Bool) (n : ℕ) (ms : List ℕ) → count_of (suc n) (cond b (0 ∷ ms) ms) ≡ count_of (suc n) ms
later_counted_by true n ms =
    let e : nat_eq 0 (suc n) ≡ false = apart_by (nat_eq 0 (suc n)) 0 (suc n) refl (λ h. omega arith) in
    counted (suc n) 0 ms ∙ rw e (omega arith)
later_counted_by false n ms = refl

-- a place occurs once among them if its item passes, else not at all
count-places : {X : Type 0} (n : ℕ) (passes : X → Bool) (xs : List X) → count_of n (places_from 0 passes xs) ≡ cond (is_some_that passes (slice_get xs n)) 1 0
count-places n passes [] = refl
count-places zero passes (x ∷ xs) = first_counted_by (passes x) (places_from 1 passes xs) (rw (places_from-suc 0 passes xs) (zero_counted (places_from 0 passes xs)))
count-places (suc n) passes (x ∷ xs) =
    later_counted_by (passes x) n (places_from 1 passes xs) ∙ ap (λ (is : List ℕ). count_of (suc n) is) (places_from-suc 0 passes xs) ∙ count-suc n (places_from 0 passes xs) ∙ count-places n passes xs

-- if all items pass, the item at any place passes
pub all_passed_at : {X : Type 0} (passes : X → Bool) → ((x : X) → passes x ≡ true) → (xs : List X) (n : ℕ) → n < length xs → is_some_that passes (slice_get xs n) ≡ true
all_passed_at passes h [] n l = absurd (omega arith)
all_passed_at passes h (x ∷ xs) zero l = h x
all_passed_at passes h (x ∷ xs) (suc n) l = all_passed_at passes h xs n (omega arith)

-- ---- what is among joined lists

or_assoc : (a b c : Bool) → (a || (b || c)) ≡ ((a || b) || c)
or_assoc true b c = refl
or_assoc false b c = refl

pub among-append : (n : ℕ) (ms ns : List ℕ) → is_among n (ms ++ ns) ≡ (is_among n ms || is_among n ns)
among-append n [] ns = refl
among-append n (m ∷ ms) ns = ap (λ (b : Bool). nat_eq n m || b) (among-append n ms ns) ∙ or_assoc (nat_eq n m) (is_among n ms) (is_among n ns)

pub or_true : (b : Bool) → (b || true) ≡ true
or_true true = refl
or_true false = refl

pub or_false : (b : Bool) → b ≡ (b || false)
or_false true = refl
or_false false = refl

pub one_of_two : (a b : Bool) → (a || b) ≡ true → (a ≡ true) ⊎ (b ≡ true)
one_of_two true b h = inl refl
one_of_two false b h = inr h

both_counted : (a b c : Bool) → c ≡ (a || b) → (a ≡ true → b ≡ false) → cond a 1 0 + cond b 1 0 ≡ cond c 1 0
both_counted true true c e d = absurd (let f = d refl in cc)
both_counted true false c e d = rw e refl
both_counted false true c e d = rw e refl
both_counted false false c e d = rw e refl

-- ---- ranges side by side

within_by : (a b c : Bool) → (a ≡ true → b ≡ true) → (b ≡ true → c ≡ true) → (not a && c) ≡ ((not a && b) || (not b && c))
within_by true true c f g = refl
within_by true false c f g = absurd (let h = f refl in cc)
within_by false true true f g = refl
within_by false true false f g = absurd (let h = g refl in cc)
within_by false false c f g = refl

beyond_by : (a b c : Bool) → (not a && b) ≡ true → (not b && c) ≡ false
beyond_by a true c h = refl
beyond_by true false c h = absurd (cc)
beyond_by false false c h = absurd (cc)

below_later : (low mid k : List ℕ) → order low mid ≡ Less → is_below k low ≡ true → is_below k mid ≡ true
below_later low mid k l h = less_is_below k mid (total.trans k low mid (below_is_less k low h) l)

before_end : (mid : List ℕ) (end : Option (List ℕ)) (k : List ℕ) → IsBefore end mid → is_below k mid ≡ true → is_before end k ≡ true
before_end mid None k l h = refl
before_end mid (Some end) k l h = below_later mid end k l h

-- a key lies in a range, or in none, on exactly one side of a key in it
pub within_parts : (low mid : List ℕ) (end : Option (List ℕ)) (k : List ℕ) → order low mid ≡ Less → IsBefore end mid → is_within low end k ≡ (is_within low (Some mid) k || is_within mid end k)
within_parts low mid end k l m = within_by (is_below k low) (is_below k mid) (is_before end k) (below_later low mid k l) (before_end mid end k m)

pub within_one : (low mid : List ℕ) (end : Option (List ℕ)) (k : List ℕ) → is_within low (Some mid) k ≡ true → is_within mid end k ≡ false
within_one low mid end k h = beyond_by (is_below k low) (is_below k mid) (is_before end k) h

-- each key lies in the range of all keys
pub within_all : (k : List ℕ) → is_within [] None k ≡ true
within_all [] = refl
within_all (x ∷ xs) = refl

-- ---- the places of a route

kept_by : (pid : ℕ) (ps : List ℕ) (rs : List Route) → (let r : Route = record { pid = pid; places = ps } in flat_map (λ (t : Route). t.places) (cond (has_places r) (r ∷ rs) rs) ≡ ps ++ flat_map (λ (t : Route). t.places) rs)
kept_by pid [] rs = refl
kept_by pid (p ∷ ps) rs = refl

meets_as : (low : List ℕ) (end : Option (List ℕ)) (s : Span) → meets_page low end s ≡ (is_within low end (first_of s) || reaches_page low s)
meets_as low end (One k) = or_false (is_within low end k)
meets_as low end (Range lo hi) = refl

meets_by_key : (low : List ℕ) (end : Option (List ℕ)) (s : Span) → is_range s ≡ false → meets_page low end s ≡ is_within low end (first_of s)
meets_by_key low end (One k) s = refl
meets_by_key low end (Range lo hi) s = absurd (cc)

pub first_page : {V : Type 0} (p : Placed V) (ps : List (Placed V)) → next_low (p ∷ ps) None ≡ Some [] → p.page.low ≡ []
first_page p ps h = cc

module _ {A : Type 0} where
  -- a command goes to the pages that it begins in, or reaches
  pub goes_as : (low : List ℕ) (end : Option (List ℕ)) (c : Command A) → goes_to low end c ≡ (begins_in low end c || reaches low c)
  goes_as low end c = meets_as low end (span_of c)

  -- one on a key goes by its key alone
  pub goes_by_key : (low : List ℕ) (end : Option (List ℕ)) (c : Command A) → is_ranged c ≡ false → goes_to low end c ≡ is_within low end (key_of c)
  goes_by_key low end c s = meets_by_key low end (span_of c) s

  -- all commands begin in the range of all keys
  pub all_places : (cs : List (Command A)) → places_from 0 (begins_in [] None) cs ≡ places_below (length cs)
  all_places cs = places_from-all 0 (begins_in [] None) cs (λ c. within_all (key_of c))

  -- each place is of a command that goes to the page
  pub own_places : (low : List ℕ) (end : Option (List ℕ)) (cs : List (Command A)) → AllByRecursion (λ place. goes_at cs low end place ≡ true) (places_within low end cs)
  own_places low end cs =
      let ns = places_within low end cs in
      all_weaker (λ n. is_among n ns ≡ true) (λ n. goes_at cs low end n ≡ true) (λ n h. sym (among-places n (goes_to low end) cs) ∙ h) ns (all_among ns)

  -- ---- the routes of a level

  abbrev pub kept : List (Command A) → List Place → List Route
  kept cs ats = filter has_places (map (route_to cs) ats)

  abbrev pub all_kept : List (Command A) → List Place → List ℕ
  all_kept cs ats = flat_map (λ r. r.places) (kept cs ats)

  -- a page to which no command goes adds nothing
  pub all_kept-cons : (cs : List (Command A)) (at : Place) (ats : List Place) → all_kept cs (at ∷ ats) ≡ places_within at.low at.end cs ++ all_kept cs ats
  all_kept-cons cs at ats = kept_by at.pid (places_within at.low at.end cs) (kept cs ats)

  route_by : (cs : List (Command A)) (at : Place) (ats : List Place) (rs : List Route) (ns : List ℕ) → ns ≡ places_within at.low at.end cs → AreRoutesTo cs ats rs
      → (let r : Route = record { pid = at.pid; places = ns } in AreRoutesTo cs (at ∷ ats) (cond (has_places r) (r ∷ rs) rs))
  route_by cs at ats rs [] e a = left_out at a
  route_by cs at ats rs (n ∷ ns) e a =
      let Own : List ℕ → Type 0 = λ is. AllByRecursion (λ place. goes_at cs at.low at.end place ≡ true) is in
      next at (record { pid = at.pid; places = n ∷ ns }) (record {
        pid = refl;
        some = omega arith;
        rising = IsStrictlyIncreasing-from_sorted (n ∷ ns) (subst (λ (is : List ℕ). IsStrictlySortedBy nat_cmp is) (sym e) (rising-places_from 0 (goes_to at.low at.end) cs));
        below = subst (λ (is : List ℕ). AllByRecursion (λ i. i < length cs) is) (sym e) (below-places_from (length cs) 0 (goes_to at.low at.end) cs (omega arith));
        own = subst Own (sym e) (own_places at.low at.end cs);
      }) a

  -- the routes are to some of the pages, in order
  pub kept-routes : (cs : List (Command A)) (ats : List Place) → AreRoutesTo cs ats (kept cs ats)
  kept-routes cs [] = none
  kept-routes cs (at ∷ ats) = route_by cs at ats (kept cs ats) (places_within at.low at.end cs) refl (kept-routes cs ats)

  -- their places are below the number of commands
  below-kept : (cs : List (Command A)) (ats : List Place) → AllByRecursion (λ n. n < length cs) (all_kept cs ats)
  below-kept cs [] = tt
  below-kept cs (at ∷ ats) =
      subst (λ (is : List ℕ). AllByRecursion (λ n. n < length cs) is) (sym (all_kept-cons cs at ats))
      (all-append (λ n. n < length cs) (places_within at.low at.end cs) (all_kept cs ats) (below-places_from (length cs) 0 (goes_to at.low at.end) cs (omega arith)) (below-kept cs ats))

  among_kept-cons : (cs : List (Command A)) (n : ℕ) (at : Place) (ats : List Place) → is_among n (all_kept cs (at ∷ ats)) ≡ (goes_at cs at.low at.end n || is_among n (all_kept cs ats))
  among_kept-cons cs n at ats =
      ap (λ (is : List ℕ). is_among n is) (all_kept-cons cs at ats)
      ∙ among-append n (places_within at.low at.end cs) (all_kept cs ats)
      ∙ ap (λ (b : Bool). b || is_among n (all_kept cs ats)) (among-places n (goes_to at.low at.end) cs)

  count_kept-cons : (cs : List (Command A)) (n : ℕ) (at : Place) (ats : List Place) → count_of n (all_kept cs (at ∷ ats)) ≡ cond (goes_at cs at.low at.end n) 1 0 + count_of n (all_kept cs ats)
  count_kept-cons cs n at ats =
      ap (λ (is : List ℕ). count_of n is) (all_kept-cons cs at ats)
      ∙ sum_by-append (λ m. cond (nat_eq m n) 1 0) (places_within at.low at.end cs) (all_kept cs ats)
      ∙ ap (λ (m : ℕ). m + count_of n (all_kept cs ats)) (count-places n (goes_to at.low at.end) cs)

  pub goes_where_begun : (low : List ℕ) (end : Option (List ℕ)) (o : Option (Command A)) → is_some_that (begins_in low end) o ≡ true → is_some_that (goes_to low end) o ≡ true
  goes_where_begun low end None h = absurd (cc)
  goes_where_begun low end (Some c) h = goes_as low end c ∙ rw h refl

  pub begun_apart : (low mid : List ℕ) (end : Option (List ℕ)) (o : Option (Command A)) → order low mid ≡ Less → IsBefore end mid → is_some_that (begins_in low end) o ≡ true
      → (is_some_that (begins_in low (Some mid)) o ≡ true) ⊎ (is_some_that (begins_in mid end) o ≡ true)
  begun_apart low mid end None l m h = absurd (cc)
  begun_apart low mid end (Some c) l m h =
      one_of_two (is_within low (Some mid) (key_of c)) (is_within mid end (key_of c)) (sym (within_parts low mid end (key_of c) l m) ∙ h)

  point_goes_by : (low : List ℕ) (end : Option (List ℕ)) (o : Option (Command A)) → is_some_that is_ranged o ≡ false → is_some_that (goes_to low end) o ≡ is_some_that (begins_in low end) o
  point_goes_by low end None s = refl
  point_goes_by low end (Some c) s = goes_by_key low end c s

  begun_counted : (low mid : List ℕ) (end : Option (List ℕ)) (o : Option (Command A)) → order low mid ≡ Less → IsBefore end mid
      → cond (is_some_that (begins_in low (Some mid)) o) 1 0 + cond (is_some_that (begins_in mid end) o) 1 0 ≡ cond (is_some_that (begins_in low end) o) 1 0
  begun_counted low mid end None l m = refl
  begun_counted low mid end (Some c) l m =
      both_counted (is_within low (Some mid) (key_of c)) (is_within mid end (key_of c)) (is_within low end (key_of c)) (within_parts low mid end (key_of c) l m) (within_one low mid end (key_of c))

  module _ {V : Type 0} where
    pub routes-in_order : (level : List (Placed V)) (cs : List (Command A)) → AreRoutesTo cs (ranges level) (routes level cs)
    routes-in_order level cs = kept-routes cs (ranges level)

    pub routes-within : (level : List (Placed V)) (cs : List (Command A)) → AllByRecursion (λ place. place < length cs) (flat_map (λ r. r.places) (routes level cs))
    routes-within level cs = below-kept cs (ranges level)

    -- of pages that tile a range, the routes have each place whose command begins in the range
    some-tiled : (cs : List (Command A)) (n : ℕ) (p : Placed V) (ps : List (Placed V)) (end : Option (List ℕ)) → Tiled (p ∷ ps) end → is_some_that (begins_in p.page.low end) (slice_get cs n) ≡ true
        → is_among n (all_kept cs (children (names (p ∷ ps)) end)) ≡ true
    some-tiled cs n p [] end h b =
        let at : Place = record { pid = p.pid; low = p.page.low; end = end } in
        among_kept-cons cs n at [] ∙ rw (goes_where_begun p.page.low end (slice_get cs n) b) refl
    some-tiled cs n p (q ∷ qs) end h b =
        let at : Place = record { pid = p.pid; low = p.page.low; end = Some q.page.low } in
        let rest = children (names (q ∷ qs)) end in
        among_kept-cons cs n at rest
        ∙ elim (begun_apart p.page.low q.page.low end (slice_get cs n) h.0.low (low_is_before q qs end h.1) b) [
          | inl here ↦ (rw (goes_where_begun p.page.low (Some q.page.low) (slice_get cs n) here) refl)
          | inr later ↦ (rw (some-tiled cs n q qs end h.1 later) (or_true (goes_at cs p.page.low (Some q.page.low) n)))
        ]

    -- of pages that tile all keys, they have each place
    pub routes-some : (level : List (Placed V)) (cs : List (Command A)) (place : ℕ) → next_low level None ≡ Some [] → Tiled level None → place < length cs → is_among place (flat_map (λ r. r.places) (routes level cs)) ≡ true
    routes-some [] cs n f h l = absurd (cc)
    routes-some (p ∷ ps) cs n f h l =
        some-tiled cs n p ps None h (ap (λ (k : List ℕ). is_some_that (begins_in k None) (slice_get cs n)) (first_page p ps f) ∙ all_passed_at (begins_in [] None) (λ c. within_all (key_of c)) cs n l)

    -- of pages that tile a range, the routes have a place just once whose command is no scan and begins in the range
    once-tiled : (cs : List (Command A)) (n : ℕ) (p : Placed V) (ps : List (Placed V)) (end : Option (List ℕ)) → Tiled (p ∷ ps) end → is_some_that is_ranged (slice_get cs n) ≡ false
        → count_of n (all_kept cs (children (names (p ∷ ps)) end)) ≡ cond (is_some_that (begins_in p.page.low end) (slice_get cs n)) 1 0
    once-tiled cs n p [] end h s =
        let at : Place = record { pid = p.pid; low = p.page.low; end = end } in
        count_kept-cons cs n at [] ∙ rw (point_goes_by p.page.low end (slice_get cs n) s) (omega arith)
    once-tiled cs n p (q ∷ qs) end h s =
        let at : Place = record { pid = p.pid; low = p.page.low; end = Some q.page.low } in
        let rest = children (names (q ∷ qs)) end in
        count_kept-cons cs n at rest
        ∙ rw (point_goes_by p.page.low (Some q.page.low) (slice_get cs n) s, once-tiled cs n q qs end h.1 s) (begun_counted p.page.low q.page.low end (slice_get cs n) h.0.low (low_is_before q qs end h.1))

    -- of pages that tile all keys, they have each such place once
    pub routes-once : (level : List (Placed V)) (cs : List (Command A)) (place : ℕ) → next_low level None ≡ Some [] → Tiled level None → place < length cs → is_some_that is_ranged (slice_get cs place) ≡ false
        → count_by (λ other. nat_eq other place) (flat_map (λ r. r.places) (routes level cs)) ≡ 1
    routes-once [] cs n f h l s = absurd (cc)
    routes-once (p ∷ ps) cs n f h l s =
        once-tiled cs n p ps None h s
        ∙ ap (λ (b : Bool). cond b 1 0) (ap (λ (k : List ℕ). is_some_that (begins_in k None) (slice_get cs n)) (first_page p ps f) ∙ all_passed_at (begins_in [] None) (λ c. within_all (key_of c)) cs n l)
