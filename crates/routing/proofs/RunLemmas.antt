-- Lemmas on the runs of pages, without some idle commands, for the proofs of this crate and of those above it.
use Rattle.std.specs.Prelude.{◌≡◌, ◌⊎◌, ℕ, zero, suc, ◌+◌, ◌<◌, Bool, true, false, not, ◌&&◌, ◌||◌, cond, List, [], ◌∷◌, ◌++◌, flat_map, length, take, slice_get, nat_eq, count_by, Option, Some, None}
use Rattle.std.proofs.Common.{refl, sym, ap, ◌∙◌, subst, arith, inl, inr, eqb-true}
use Rattle.std.specs.List.{AllByRecursion, filter, list_any}
use Rattle.std.specs.List.Sorted.{IsStrictlyIncreasing}
use Rattle.std.specs.Ordering.{nat_cmp}
use Rattle.std.proofs.lemmas.Bool.{and_parts}
use Rattle.std.proofs.lemmas.List.Kept.{IsStrictlySortedBy-filter}
use Rattle.std.proofs.lemmas.List.Sums.{sum_by-cons, sum_by-append}
use Rattle.std.proofs.lemmas.Map.Keys.{IsStrictlyIncreasing-from_sorted}
use Rattle.keys.specs.CommandKey.{key_of, is_ranged}
use Rattle.keys.specs.Footprint.{Span, One, Range, span_of, is_range}
use Rattle.keys.specs.Places.{is_some_that, is_ranged_at}
use Rattle.keys.specs.Range.{is_below, is_before, is_within}
use Rattle.keys.specs.declared.command.Command.{Command}
use Rattle.keys.specs.declared.command.Command.TheVariants.{Get, Put, Add, Del, Scan, Wipe}
use Rattle.keys.proofs.MapLemmas.{total}
use Rattle.index_page.specs.Children.{Place, children, is_between}
use Rattle.index_page.proofs.ListLemmas.{all-filter, all-append}
use Rattle.index_page.proofs.RangeLemmas.{below_is_less, less_is_below, less_through}
use Rattle.mapping.specs.FreshPids.{is_among}
use Rattle.mapping.specs.Levels.{Placed, names}
use Rattle.mapping.specs.Proper.{next_low, Tiled}
use Rattle.mapping.proofs.TileLemmas.{low_is_before}
use Rattle.routing.specs.Idle.{covers, empties, gives, gives_within, takes_page, is_idle}
use Rattle.routing.specs.Routes.{Route, has_some, goes_to, goes_at, places_within, ranges, IsRouteTo, AreRoutesTo}
use Rattle.routing.specs.Runs.{IsRunOf, AreRunsOf}
use Rattle.routing.specs.SortedPlaces.{begins_in, reaches_page, reaches, reaches_at}
use Rattle.routing.proofs.RouteLemmas.{among-places, among-append, rising-places_from, below-places_from, own_places, all_kept, all_kept-cons, count_of, routes-once, goes_as, goes_where_begun, begun_apart, first_page, all_passed_at, within_all, or_true}
use Rattle.routing.proofs.SliceLemmas.{among-filter}

-- ---- ranges

not_true : (b : Bool) → not b ≡ true → b ≡ false
not_true true h = absurd (cc)
not_true false h = refl

from_lower_by : (b : Bool) (q lo low : List ℕ) → is_below q lo ≡ b → is_below lo low ≡ true → is_below q low ≡ false → not b ≡ true
from_lower_by false q lo low e l n = refl
from_lower_by true q lo low e l n = absurd (let t : is_below q low ≡ true = less_is_below q low (total.trans q lo low (below_is_less q lo e) (below_is_less lo low l)) in cc)

before_covered : (end hi : Option (List ℕ)) (q : List ℕ) → covers end hi ≡ true → is_before end q ≡ true → is_before hi q ≡ true
before_covered end None q c h = refl
before_covered None (Some hi) q c h = absurd (cc)
before_covered (Some e) (Some hi) q c h = less_is_below q hi (less_through q hi e h (not_true (is_below hi e) c))

-- a wipe that begins before a page, and covers it, has all its keys
pub in_wipe : (low : List ℕ) (end : Option (List ℕ)) (lo : List ℕ) (hi : Option (List ℕ)) (q : List ℕ) → is_below lo low ≡ true → covers end hi ≡ true → is_within low end q ≡ true → is_within lo hi q ≡ true
in_wipe low end lo hi q l c h =
    let own = and_parts (not (is_below q low)) (is_before end q) h in
    rw (from_lower_by (is_below q lo) q lo low refl l (not_true (is_below q low) own.0), before_covered end hi q c own.1) refl

span_ranged : (low : List ℕ) (s : Span) → reaches_page low s ≡ true → is_range s ≡ true
span_ranged low (One k) h = absurd (cc)
span_ranged low (Range lo hi) h = refl

module _ {A : Type 0} where
  -- what reaches a page is on a range
  pub reaching_ranged : (low : List ℕ) (c : Command A) → reaches low c ≡ true → is_ranged c ≡ true
  reaching_ranged low c h = span_ranged low (span_of c) h

  -- what takes all of a page is a wipe that has all its keys
  pub record IsWipeOfPage (low : List ℕ) (end : Option (List ℕ)) (c : Command A) : Type 0 where
    pub lo : List ℕ
    pub hi : Option (List ℕ)
    pub is : c ≡ Wipe lo hi
    pub all : (key : List ℕ) → is_within low end key ≡ true → is_within lo hi key ≡ true

  pub wipe_of_page : (low : List ℕ) (end : Option (List ℕ)) (c : Command A) → takes_page low end c ≡ true → IsWipeOfPage low end c
  wipe_of_page low end (Get k) h = absurd (cc)
  wipe_of_page low end (Put k v) h = absurd (cc)
  wipe_of_page low end (Add k v) h = absurd (cc)
  wipe_of_page low end (Del k) h = absurd (cc)
  wipe_of_page low end (Scan lo hi limit) h = absurd (let n = (and_parts (is_between lo hi low) false h).1 in cc)
  wipe_of_page low end (Wipe lo hi) h =
      let parts = and_parts (is_between lo hi low) (covers end hi) h in
      let begins = (and_parts (is_below lo low) (is_before hi low) parts.0).0 in
      record { lo = lo; hi = hi; is = refl; all = λ key w. in_wipe low end lo hi key begins parts.1 w }

-- ---- what is found in a list

-- the first of a list's items that passes, before this place
pub record IsFirst {X : Type 0} (f : X → Bool) (xs : List X) (n : ℕ) : Type 0 where
  pub at : ℕ
  pub before : at < n
  pub item : X
  pub there : slice_get xs at ≡ Some item
  pub passes : f item ≡ true
  pub none : list_any f (take at xs) ≡ false

module _ {X : Type 0} (f : X → Bool) where
  later : (x : X) (xs : List X) (n : ℕ) → f x ≡ false → IsFirst f xs n → IsFirst f (x ∷ xs) (suc n)
  later x xs n e h = let b = h.before in record { at = suc h.at; before = omega (arith, b); item = h.item; there = h.there; passes = h.passes; none = rw e h.none }

  first_by : (b : Bool) (x : X) (xs : List X) (n : ℕ) → f x ≡ b → (b || list_any f (take n xs)) ≡ true → (list_any f (take n xs) ≡ true → IsFirst f xs n) → IsFirst f (x ∷ xs) (suc n)
  first_by true x xs n e h g = record { at = 0; before = omega arith; item = x; there = refl; passes = e; none = refl }
  first_by false x xs n e h g = later x xs n e (g h)

  nothing_taken : (xs : List X) → list_any f (take 0 xs) ≡ true → ⊥
  nothing_taken [] h = cc
  nothing_taken (x ∷ xs) h = cc

  pub first_found : (xs : List X) (n : ℕ) → list_any f (take n xs) ≡ true → IsFirst f xs n
  first_found xs zero h = absurd (nothing_taken xs h)
  first_found [] (suc n) h = absurd (cc)
  first_found (x ∷ xs) (suc n) h = first_by (f x) x xs n refl h (first_found xs n)

  none_by : (b : Bool) (x : X) (xs : List X) → f x ≡ b → (b || list_any f xs) ≡ false → (f x ≡ false) × (list_any f xs ≡ false)
  none_by true x xs e h = absurd (cc)
  none_by false x xs e h = (e, h)

  -- what is found nowhere isn't at any place
  pub nowhere : (xs : List X) (n : ℕ) (x : X) → list_any f xs ≡ false → slice_get xs n ≡ Some x → f x ≡ false
  nowhere [] n x h e = absurd (cc)
  nowhere (y ∷ ys) zero x h e = let same : y ≡ x = cc in subst (λ (z : X). f z ≡ false) same (none_by (f y) y ys refl h).0
  nowhere (y ∷ ys) (suc n) x h e = nowhere ys n x (none_by (f y) y ys refl h).1 e

-- ---- one page's run

some_length : (xs : List ℕ) → has_some xs ≡ true → 0 < length xs
some_length [] h = absurd (cc)
some_length (x ∷ xs) h = omega arith

has_among : (n : ℕ) (xs : List ℕ) → is_among n xs ≡ true → has_some xs ≡ true
has_among n [] h = absurd (cc)
has_among n (x ∷ xs) h = refl

nothing_there : (xs : List ℕ) → has_some xs ≡ false → xs ≡ []
nothing_there [] h = refl
nothing_there (x ∷ xs) h = absurd (cc)

count-append : (n : ℕ) (xs ys : List ℕ) → count_of n (xs ++ ys) ≡ count_of n xs + count_of n ys
count-append n xs ys = sum_by-append (λ m. cond (nat_eq m n) 1 0) xs ys

counted : (n m : ℕ) (ms : List ℕ) → count_of n (m ∷ ms) ≡ cond (nat_eq m n) 1 0 + count_of n ms
counted n m ms = sum_by-cons (λ i. cond (nat_eq i n) 1 0) m ms

count_if : (b c : Bool) (f : ℕ → Bool) (n m : ℕ) (xs ys : List ℕ) → nat_eq m n ≡ b → f m ≡ c → f n ≡ true → count_of n ys ≡ count_of n xs → count_of n (cond c (m ∷ ys) ys) ≡ count_of n (m ∷ xs)
count_if b true f n m xs ys e g k ih = counted n m ys ∙ ap (λ (i : ℕ). cond (nat_eq m n) 1 0 + i) ih ∙ sym (counted n m xs)
count_if true false f n m xs ys e g k ih = absurd (let same : m ≡ n = eqb-true m n e in let t : f n ≡ false = subst (λ (i : ℕ). f i ≡ false) same g in cc)
count_if false false f n m xs ys e g k ih = ih ∙ sym (counted n m xs ∙ ap (λ (b : Bool). cond b 1 0 + count_of n xs) e ∙ omega arith)

-- a place that passes occurs as often among the passing places as among all places
count-filter : (f : ℕ → Bool) (n : ℕ) → f n ≡ true → (xs : List ℕ) → count_of n (filter f xs) ≡ count_of n xs
count-filter f n k [] = refl
count-filter f n k (x ∷ xs) = count_if (nat_eq x n) (f x) f n x xs (filter f xs) refl refl k (count-filter f n k xs)

-- what an idle command says of the page
pub record IsIdleAfter {A : Type 0} (cs : List (Command A)) (low : List ℕ) (end : Option (List ℕ)) (place : ℕ) : Type 0 where
  pub reaches : reaches_at cs low place ≡ true
  pub none : list_any (gives_within low end) cs ≡ false
  pub taken : list_any (takes_page low end) (take place cs) ≡ true

module _ {A : Type 0} (cs : List (Command A)) where
  pub idle_parts : (low : List ℕ) (end : Option (List ℕ)) (place : ℕ) → is_idle cs low end place ≡ true → IsIdleAfter cs low end place
  idle_parts low end place h =
      let parts = and_parts (reaches_at cs low place) (not (list_any (gives_within low end) cs) && list_any (takes_page low end) (take place cs)) h in
      let both = and_parts (not (list_any (gives_within low end) cs)) (list_any (takes_page low end) (take place cs)) parts.1 in
      record { reaches = parts.0; none = not_true (list_any (gives_within low end) cs) both.0; taken = both.1 }

  -- the first that takes all of a page isn't idle itself
  pub first_not_idle : (low : List ℕ) (end : Option (List ℕ)) (w : ℕ) → list_any (takes_page low end) (take w cs) ≡ false → is_idle cs low end w ≡ false
  first_not_idle low end w n = of (is_idle cs low end w) refl
    where
      of : (b : Bool) → is_idle cs low end w ≡ b → b ≡ false
      of true e = absurd (let t = (idle_parts low end w e).taken in cc)
      of false e = refl

  reach_ranged_by : (low : List ℕ) (o : Option (Command A)) → is_some_that (reaches low) o ≡ true → is_some_that is_ranged o ≡ true
  reach_ranged_by low None h = absurd (cc)
  reach_ranged_by low (Some c) h = reaching_ranged low c h

  begun_not_reaching_by : (b : Bool) (low : List ℕ) (end : Option (List ℕ)) (o : Option (Command A)) → is_some_that (begins_in low end) o ≡ true → is_some_that (reaches low) o ≡ b → b ≡ false
  begun_not_reaching_by false low end o h e = refl
  begun_not_reaching_by true low end None h e = absurd (cc)
  begun_not_reaching_by true low end (Some (Get k)) h e = absurd (cc)
  begun_not_reaching_by true low end (Some (Put k v)) h e = absurd (cc)
  begun_not_reaching_by true low end (Some (Add k v)) h e = absurd (cc)
  begun_not_reaching_by true low end (Some (Del k)) h e = absurd (cc)
  begun_not_reaching_by true low end (Some (Scan lo hi limit)) h e = absurd (apart lo hi h e)
    where
      apart : (lo : List ℕ) (hi : Option (List ℕ)) → is_within low end lo ≡ true → is_between lo hi low ≡ true → ⊥
      apart lo hi h e = let t = (and_parts (is_below lo low) (is_before hi low) e).0 in let n = not_true (is_below lo low) (and_parts (not (is_below lo low)) (is_before end lo) h).0 in cc
  begun_not_reaching_by true low end (Some (Wipe lo hi)) h e = absurd (apart lo hi h e)
    where
      apart : (lo : List ℕ) (hi : Option (List ℕ)) → is_within low end lo ≡ true → is_between lo hi low ≡ true → ⊥
      apart lo hi h e = let t = (and_parts (is_below lo low) (is_before hi low) e).0 in let n = not_true (is_below lo low) (and_parts (not (is_below lo low)) (is_before end lo) h).0 in cc

  plain_by : (b : Bool) (low : List ℕ) (o : Option (Command A)) → is_some_that is_ranged o ≡ false → is_some_that (reaches low) o ≡ b → b ≡ false
  plain_by false low o p e = refl
  plain_by true low o p e = absurd (let t = reach_ranged_by low o e in cc)

  -- a command on one key reaches no page
  plain_not_reaching : (low : List ℕ) (n : ℕ) → is_ranged_at cs n ≡ false → reaches_at cs low n ≡ false
  plain_not_reaching low n p = plain_by (reaches_at cs low n) low (slice_get cs n) p refl

  module _ (at : Place) (r : Route) (h : IsRunOf cs at r) where
    abbrev whole : List ℕ
    whole = places_within at.low at.end cs

    stays_by : (b : Bool) (n : ℕ) → h.keeps n ≡ b → is_idle cs at.low at.end n ≡ false → b ≡ true
    stays_by true n e i = refl
    stays_by false n e i = absurd (let t = h.idle n e in cc)

    -- a command that isn't idle stays
    stays : (n : ℕ) → is_idle cs at.low at.end n ≡ false → h.keeps n ≡ true
    stays n i = stays_by (h.keeps n) n refl i

    not_idle_by : (b : Bool) (n : ℕ) → is_idle cs at.low at.end n ≡ b → reaches_at cs at.low n ≡ false → b ≡ false
    not_idle_by true n e f = absurd (let t = (idle_parts at.low at.end n e).reaches in cc)
    not_idle_by false n e f = refl

    not_reaching_stays : (n : ℕ) → reaches_at cs at.low n ≡ false → h.keeps n ≡ true
    not_reaching_stays n f = stays n (not_idle_by (is_idle cs at.low at.end n) n refl f)

    among_run : (n : ℕ) → is_among n r.places ≡ (goes_at cs at.low at.end n && h.keeps n)
    among_run n = ap (λ (xs : List ℕ). is_among n xs) h.places ∙ among-filter h.keeps n whole ∙ ap (λ (b : Bool). b && h.keeps n) (among-places n (goes_to at.low at.end) cs)

    -- what begins in the page is in its run
    begun_in_run : (n : ℕ) → is_some_that (begins_in at.low at.end) (slice_get cs n) ≡ true → is_among n r.places ≡ true
    begun_in_run n b =
        among_run n
        ∙ rw (goes_where_begun at.low at.end (slice_get cs n) b, not_reaching_stays n (begun_not_reaching_by (reaches_at cs at.low n) at.low at.end (slice_get cs n) b refl)) refl

    out_by : (b : Bool) (n : ℕ) → h.keeps n ≡ b → goes_at cs at.low at.end n ≡ true → is_among n r.places ≡ false → b ≡ false
    out_by true n e g f = absurd (let t = among_run n in let u : is_among n r.places ≡ true = t ∙ rw (g, e) refl in cc)
    out_by false n e g f = refl

    -- what goes to the page and isn't in its run is idle
    pub out_is_idle : (n : ℕ) → goes_at cs at.low at.end n ≡ true → is_among n r.places ≡ false → is_idle cs at.low at.end n ≡ true
    out_is_idle n g f = h.idle n (out_by (h.keeps n) n refl g f)

    rising : IsStrictlyIncreasing r.places
    rising = subst (λ (xs : List ℕ). IsStrictlyIncreasing xs) (sym h.places) (IsStrictlyIncreasing-from_sorted (filter h.keeps whole) (IsStrictlySortedBy-filter nat_cmp h.keeps whole (rising-places_from 0 (goes_to at.low at.end) cs)))

    of_whole : (P : ℕ → Type 0) → AllByRecursion P whole → AllByRecursion P r.places
    of_whole P a = subst (λ (xs : List ℕ). AllByRecursion P xs) (sym h.places) (all-filter P h.keeps whole a)

    pub below_run : AllByRecursion (λ n. n < length cs) r.places
    below_run = of_whole (λ n. n < length cs) (below-places_from (length cs) 0 (goes_to at.low at.end) cs (omega arith))

    pub own_run : AllByRecursion (λ n. goes_at cs at.low at.end n ≡ true) r.places
    own_run = of_whole (λ n. goes_at cs at.low at.end n ≡ true) (own_places at.low at.end cs)

    -- the run is a route to the page
    run_is_route : IsRouteTo cs at r
    run_is_route = record { pid = h.pid; some = some_length r.places h.some; rising = rising; below = below_run; own = own_run }

    count_by_place : (n : ℕ) → h.keeps n ≡ true → count_of n r.places ≡ count_of n whole
    count_by_place n k = ap (λ (xs : List ℕ). count_of n xs) h.places ∙ count-filter h.keeps n k whole

-- ---- the runs of a level

module _ {A : Type 0} (cs : List (Command A)) where
  abbrev all_run : List Route → List ℕ
  all_run rs = flat_map (λ r. r.places) rs

  -- the runs are routes to some of the pages, in order
  pub runs-in_order : {ats : List Place} {rs : List Route} → AreRunsOf cs ats rs → AreRoutesTo cs ats rs
  runs-in_order (AreRunsOf.none) = AreRoutesTo.none
  runs-in_order (AreRunsOf.next at r h a) = AreRoutesTo.next at r (run_is_route cs at r h) (runs-in_order a)
  runs-in_order (AreRunsOf.left_out at e a) = AreRoutesTo.left_out at (runs-in_order a)

  pub runs-within : {ats : List Place} {rs : List Route} → AreRunsOf cs ats rs → AllByRecursion (λ place. place < length cs) (all_run rs)
  runs-within (AreRunsOf.none) = tt
  runs-within (AreRunsOf.next {rs = rs} at r h a) = all-append (λ place. place < length cs) r.places (all_run rs) (below_run cs at r h) (runs-within a)
  runs-within (AreRunsOf.left_out at e a) = runs-within a

  abbrev begun_at : ℕ → Place → Bool
  begun_at n at = is_some_that (begins_in at.low at.end) (slice_get cs n)

  or_parts : (a b : Bool) → (a || b) ≡ true → (a ≡ true) ⊎ (b ≡ true)
  or_parts true b h = inl refl
  or_parts false b h = inr h

  in_either : (n : ℕ) (xs ys : List ℕ) → (is_among n xs ≡ true) ⊎ (is_among n ys ≡ true) → is_among n (xs ++ ys) ≡ true
  in_either n xs ys (inl h) = among-append n xs ys ∙ rw h refl
  in_either n xs ys (inr h) = among-append n xs ys ∙ rw h (or_true (is_among n xs))

  nothing_begun : (n : ℕ) (at : Place) → has_some (places_within at.low at.end cs) ≡ false → begun_at n at ≡ true → ⊥
  nothing_begun n at e b =
      let there = among-places n (goes_to at.low at.end) cs ∙ goes_where_begun at.low at.end (slice_get cs n) b in
      let some = has_among n (places_within at.low at.end cs) there in
      cc

  -- what begins in one of the pages is in the runs
  runs_begun : (n : ℕ) {ats : List Place} {rs : List Route} → AreRunsOf cs ats rs → list_any (begun_at n) ats ≡ true → is_among n (all_run rs) ≡ true
  runs_begun n (AreRunsOf.none) b = absurd (cc)
  runs_begun n (AreRunsOf.next {ats = ats} {rs = rs} at r h a) b =
      in_either n r.places (all_run rs) (elim (or_parts (begun_at n at) (list_any (begun_at n) ats) b) [
        | inl here ↦ inl (begun_in_run cs at r h n here)
        | inr later ↦ inr (runs_begun n a later)
      ])
  runs_begun n (AreRunsOf.left_out {ats = ats} at e a) b = elim (or_parts (begun_at n at) (list_any (begun_at n) ats) b) [
    | inl here ↦ absurd (nothing_begun n at e here)
    | inr later ↦ runs_begun n a later
  ]

  -- they have a place that is on one key as often as the routes do
  runs_counted : (n : ℕ) {ats : List Place} {rs : List Route} → is_ranged_at cs n ≡ false → AreRunsOf cs ats rs → count_of n (all_run rs) ≡ count_of n (all_kept cs ats)
  runs_counted n p (AreRunsOf.none) = refl
  runs_counted n p (AreRunsOf.next {ats = ats} {rs = rs} at r h a) =
      let whole = places_within at.low at.end cs in
      count-append n r.places (all_run rs)
      ∙ ap (λ (m : ℕ). m + count_of n (all_run rs)) (count_by_place cs at r h n (not_reaching_stays cs at r h n (plain_not_reaching cs at.low n p)))
      ∙ ap (λ (m : ℕ). count_of n whole + m) (runs_counted n p a)
      ∙ sym (ap (λ (xs : List ℕ). count_of n xs) (all_kept-cons cs at ats) ∙ count-append n whole (all_kept cs ats))
  runs_counted n p (AreRunsOf.left_out {ats = ats} {rs = rs} at e a) =
      runs_counted n p a ∙ sym (ap (λ (xs : List ℕ). count_of n xs) (all_kept-cons cs at ats) ∙ ap (λ (xs : List ℕ). count_of n (xs ++ all_kept cs ats)) (nothing_there (places_within at.low at.end cs) e))

  module _ {V : Type 0} where
    -- of pages that tile a range, there is one in which what begins in the range begins
    begun_in_one : (n : ℕ) (p : Placed V) (ps : List (Placed V)) (end : Option (List ℕ)) → Tiled (p ∷ ps) end → is_some_that (begins_in p.page.low end) (slice_get cs n) ≡ true → list_any (begun_at n) (children (names (p ∷ ps)) end) ≡ true
    begun_in_one n p [] end h b = rw b refl
    begun_in_one n p (q ∷ qs) end h b = elim (begun_apart p.page.low q.page.low end (slice_get cs n) h.0.low (low_is_before q qs end h.1) b) [
      | inl here ↦ (rw here refl)
      | inr later ↦ (rw (begun_in_one n q qs end h.1 later) (or_true (is_some_that (begins_in p.page.low (Some q.page.low)) (slice_get cs n))))
    ]

    -- of pages that tile all keys, the runs have each place
    pub runs-some : (level : List (Placed V)) (rs : List Route) (place : ℕ) → AreRunsOf cs (ranges level) rs → next_low level None ≡ Some [] → Tiled level None → place < length cs → is_among place (all_run rs) ≡ true
    runs-some [] rs n a f h l = absurd (cc)
    runs-some (p ∷ ps) rs n a f h l =
        runs_begun n a (begun_in_one n p ps None h (ap (λ (k : List ℕ). is_some_that (begins_in k None) (slice_get cs n)) (first_page p ps f) ∙ all_passed_at (begins_in [] None) (λ c. within_all (key_of c)) cs n l))

    -- and each whose command is on one key just once
    pub runs-once : (level : List (Placed V)) (rs : List Route) (place : ℕ) → AreRunsOf cs (ranges level) rs → next_low level None ≡ Some [] → Tiled level None → place < length cs → is_ranged_at cs place ≡ false
        → count_by (λ other. nat_eq other place) (all_run rs) ≡ 1
    runs-once level rs n a f h l p = runs_counted n p a ∙ routes-once level cs n f h l p

-- ---- what is left out

module _ {A : Type 0} (cs : List (Command A)) (at : Place) (r : Route) (h : IsRunOf cs at r) (place : ℕ) (goes : goes_at cs at.low at.end place ≡ true) (out : is_among place r.places ≡ false) where
  after : IsIdleAfter cs at.low at.end place
  after = idle_parts cs at.low at.end place (out_is_idle cs at r h place goes out)

  pub out_reaches : reaches_at cs at.low place ≡ true
  out_reaches = after.reaches

  first : IsFirst (takes_page at.low at.end) cs place
  first = first_found (takes_page at.low at.end) cs place after.taken

  wipe : IsWipeOfPage at.low at.end first.item
  wipe = wipe_of_page at.low at.end first.item first.passes

  -- a wipe at a lower place, which is in the run, has all keys of the page
  pub out_wiped : (earlier : ℕ) × (earlier < place) × (is_among earlier r.places ≡ true) × ((lo : List ℕ) × (hi : Option (List ℕ)) × (slice_get cs earlier ≡ Some (Wipe lo hi)) × ((key : List ℕ) → is_within at.low at.end key ≡ true → is_within lo hi key ≡ true))
  out_wiped =
      let reach = (and_parts (reaches at.low first.item) (empties at.end first.item) first.passes).0 in
      let there : goes_at cs at.low at.end first.at ≡ true = ap (λ (o : Option (Command A)). is_some_that (goes_to at.low at.end) o) first.there ∙ goes_as at.low at.end first.item ∙ rw reach (or_true (begins_in at.low at.end first.item)) in (
        first.at,
        first.before,
        among_run cs at r h first.at ∙ rw (there, stays cs at r h first.at (first_not_idle cs at.low at.end first.at first.none)) refl,
        (wipe.lo, wipe.hi, first.there ∙ ap (λ (c : Command A). Some c) wipe.is, wipe.all),
      )

  pub out_unput : (other : ℕ) (c : Command A) → slice_get cs other ≡ Some c → gives c ≡ true → is_within at.low at.end (key_of c) ≡ false
  out_unput other c e g = of (is_within at.low at.end (key_of c)) refl
    where
      of : (b : Bool) → is_within at.low at.end (key_of c) ≡ b → b ≡ false
      of true w = absurd (let n = nowhere (gives_within at.low at.end) cs other c after.none e in let t : gives_within at.low at.end c ≡ true = rw (w, g) refl in cc)
      of false w = refl
