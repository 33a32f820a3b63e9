-- The shares of a level's pages, each in the order of the batch, are the pages' runs.
use Rattle.std.specs.Prelude.{◌≡◌, ◌⊎◌, ℕ, zero, suc, ◌<◌, Bool, true, false, not, ◌&&◌, ◌||◌, List, [], ◌∷◌, ◌++◌, take, slice_get, Option, Some, None}
use Rattle.std.proofs.Common.{refl, sym, ap, ◌∙◌, arith, inl, inr}
use Rattle.std.specs.List.{filter, list_any}
use Rattle.std.specs.List.Sorted.{IsStrictlySortedBy}
use Rattle.std.specs.Ordering.{nat_cmp}
use Rattle.std.proofs.lemmas.Bool.{and_parts}
use Rattle.std.proofs.lemmas.Cmp.{nat_cmp_total}
use Rattle.std.proofs.lemmas.List.Kept.{IsStrictlySortedBy-filter}
use Rattle.std.proofs.lemmas.Map.Keys.{sorted_from_strictly_increasing}
use Rattle.keys.specs.Places.{is_some_that}
use Rattle.keys.specs.declared.command.Command.{Command}
use Rattle.index_page.specs.Children.{Place}
use Rattle.mapping.specs.FreshPids.{is_among}
use Rattle.routing.specs.Idle.{gives, gives_at, gives_within, empties, takes_page, is_idle}
use Rattle.routing.specs.Routes.{Route, has_some, goes_to, places_within}
use Rattle.routing.specs.Runs.{IsRunOf, AreRunsOf}
use Rattle.routing.specs.SortedPlaces.{AreInKeyOrder, AreSortedPlaces, begins_in, reaches, reaches_at}
use Rattle.routing.specs.Shares.{Share, all_of, has_any, is_in_range, IsInBatchOrder, AreInBatchOrder}
use Rattle.routing.proofs.BatchOrder.{same_some, some_of_both, sorted_in_range, sorted_reaching}
use Rattle.routing.proofs.IdleLemmas.{IsLeftOut, among_passing, among_kept}
use Rattle.routing.proofs.LevelShares.{IsShareFor, AreSharesFor, all_in_order}
use Rattle.routing.proofs.RouteLemmas.{among-append, among-places, one_of_two, rising-places_from}
use Rattle.routing.proofs.ShareLemmas.{none_found as none_of}
use Rattle.routing.proofs.SortLemmas.{among-permutation, same_sorted, same_number, holds_among}
use Rattle.routing.proofs.SliceLemmas.{among-filter, among_both, distinct, rising_once_sorted}

-- ---- what is found in a list

found_by : {X : Type 0} (f : X → Bool) (b : Bool) (x : X) (xs : List X) → f x ≡ b → (b ≡ true → ⊥) → list_any f xs ≡ false → (b || list_any f xs) ≡ false
found_by f true x xs e h a = absurd (h refl)
found_by f false x xs e h a = a

-- what passes at no place is found nowhere
none_found : {X : Type 0} (f : X → Bool) (xs : List X) → ((n : ℕ) → is_some_that f (slice_get xs n) ≡ true → ⊥) → list_any f xs ≡ false
none_found f [] h = refl
none_found f (x ∷ xs) h = found_by f (f x) x xs refl (h 0) (none_found f xs (λ n. h (suc n)))

or_right : (b c : Bool) → c ≡ true → (b || c) ≡ true
or_right true c h = refl
or_right false c h = h

-- what passes at a place is found before each later one
found_before : {X : Type 0} (f : X → Bool) (xs : List X) (w p : ℕ) → w < p → is_some_that f (slice_get xs w) ≡ true → list_any f (take p xs) ≡ true
found_before f xs w zero l h = absurd (omega arith)
found_before f [] w (suc p) l h = absurd (cc)
found_before f (x ∷ xs) zero (suc p) l h = rw h refl
found_before f (x ∷ xs) (suc w) (suc p) l h = or_right (f x) (list_any f (take p xs)) (found_before f xs w p (omega arith) h)

-- what is found nowhere doesn't pass if it is among the list
not_found : (f : ℕ → Bool) (p : ℕ) (xs : List ℕ) → list_any f xs ≡ false → is_among p xs ≡ true → f p ≡ false
not_found f p xs n m = holds_among (λ q. f q ≡ false) p xs (none_of f xs n) m

-- in a list and in the whole, which has besides only what is idle
kept_by : (a w d : Bool) → (a ≡ true → w ≡ true) → (w ≡ true → a ≡ false → d ≡ true) → a ≡ (w && (a || not d))
kept_by true true d f g = refl
kept_by true false d f g = sym (f refl)
kept_by false true true f g = refl
kept_by false true false f g = g refl refl
kept_by false false d f g = refl

not_kept : (a d : Bool) → (a || not d) ≡ false → d ≡ true
not_kept true d h = absurd (cc)
not_kept false true h = refl
not_kept false false h = absurd (cc)

or_left : (a b : Bool) → a ≡ true → (a || b) ≡ true
or_left true b h = refl
or_left false b h = absurd (cc)

-- ---- a page

module _ {A : Type 0} (cs : List (Command A)) where
  begun_by : (low : List ℕ) (end : Option (List ℕ)) (o : Option (Command A)) → is_some_that (gives_within low end) o ≡ true → (is_some_that (begins_in low end) o ≡ true) × (is_some_that gives o ≡ true)
  begun_by low end None h = absurd (cc)
  begun_by low end (Some c) h = let both = and_parts (begins_in low end c) (gives c) h in (both.0, both.1)

  taken_by : (low : List ℕ) (end : Option (List ℕ)) (o : Option (Command A)) → is_some_that (reaches low) o ≡ true → is_some_that (empties end) o ≡ true → is_some_that (takes_page low end) o ≡ true
  taken_by low end None h k = absurd (cc)
  taken_by low end (Some c) h k = rw (h, k) refl

  module _ (ps : List ℕ) (sorted : AreSortedPlaces cs ps) where
    module _ (at : Place) where
      abbrev whole : List ℕ
      whole = places_within at.low at.end cs

      abbrev rs : List ℕ
      rs = filter (reaches_at cs at.low) ps

      abbrev own : List ℕ
      own = filter (is_in_range cs at.low at.end) ps

      abbrev idle : ℕ → Bool
      idle = is_idle cs at.low at.end

      in_both : (n : ℕ) → is_among n (rs ++ own) ≡ is_among n whole
      in_both n = among_both cs at.low at.end rs own (sorted_reaching cs at.low ps sorted) (sorted_in_range cs at.low at.end ps sorted) n

      -- to a page that gets nothing no command goes
      nothing_goes : own ≡ [] → rs ≡ [] → has_some whole ≡ false
      nothing_goes e f = sym (same_some (rs ++ own) whole in_both) ∙ ap (λ (xs : List ℕ). has_some (xs ++ own)) f ∙ ap has_some e

      module _ (s : Share) (h : IsShareFor cs ps at s) where
        among_own : (n : ℕ) → is_some_that (begins_in at.low at.end) (slice_get cs n) ≡ true → is_among n s.own ≡ true
        among_own n b = ap (λ (xs : List ℕ). is_among n xs) h.own ∙ (sorted_in_range cs at.low at.end ps sorted).own n ∙ among-places n (begins_in at.low at.end) cs ∙ b

        none_given : list_any (gives_at cs) s.own ≡ false → list_any (gives_within at.low at.end) cs ≡ false
        none_given n = none_found (gives_within at.low at.end) cs (λ p t.
            let both = begun_by at.low at.end (slice_get cs p) t in
            let not = not_found (gives_at cs) p s.own n (among_own p both.0) in
            let is = both.1 in
            cc)

        -- what is left out is idle
        out_is_idle : (n : ℕ) → reaches_at cs at.low n ≡ true → IsLeftOut cs at.end s.own s.reaching n → idle n ≡ true
        out_is_idle n r l =
            let taken = taken_by at.low at.end (slice_get cs l.last) (h.there l.last l.kept).1 l.empties in
            rw (r, none_given l.none, found_before (takes_page at.low at.end) cs l.last n l.before taken) refl

        module _ (o : Route) (b : IsInBatchOrder s o) (in_order : AreInKeyOrder cs ps) where
          in_run : (n : ℕ) → is_among n o.places ≡ (is_among n s.reaching || is_among n s.own)
          in_run n = sym (among-permutation n (all_of s) o.places b.same) ∙ among-append n s.reaching s.own

          in_whole_by : (n : ℕ) → (is_among n s.reaching ≡ true) ⊎ (is_among n s.own ≡ true) → is_among n (rs ++ own) ≡ true
          in_whole_by n (inl m) = let t = h.there n m in among-append n rs own ∙ or_left (is_among n rs) (is_among n own) (among_kept (reaches_at cs at.low) n ps t.0 t.1)
          in_whole_by n (inr m) = among-append n rs own ∙ or_right (is_among n rs) (is_among n own) (sym (ap (λ (xs : List ℕ). is_among n xs) h.own) ∙ m)

          in_whole : (n : ℕ) → is_among n o.places ≡ true → is_among n whole ≡ true
          in_whole n m = sym (in_both n) ∙ in_whole_by n (one_of_two (is_among n s.reaching) (is_among n s.own) (sym (in_run n) ∙ m))

          stays_in_run : (n : ℕ) → is_among n s.reaching ≡ true → is_among n o.places ≡ true
          stays_in_run n m = in_run n ∙ or_left (is_among n s.reaching) (is_among n s.own) m

          reaching_by : (n : ℕ) → is_among n o.places ≡ false → reaches_at cs at.low n ≡ true → (is_among n s.reaching ≡ true) ⊎ IsLeftOut cs at.end s.own s.reaching n → idle n ≡ true
          reaching_by n m r (inl k) = absurd (let t = stays_in_run n k in cc)
          reaching_by n m r (inr l) = out_is_idle n r l

          idle_by : (n : ℕ) → is_among n o.places ≡ false → (is_among n rs ≡ true) ⊎ (is_among n own ≡ true) → idle n ≡ true
          idle_by n m (inl k) = let t = among_passing (reaches_at cs at.low) n ps k in reaching_by n m t.1 (h.each n t.0 t.1)
          idle_by n m (inr k) = absurd (let t = in_run n ∙ or_right (is_among n s.reaching) (is_among n s.own) (ap (λ (xs : List ℕ). is_among n xs) h.own ∙ k) in cc)

          -- what isn't in the run is idle
          others_idle : (n : ℕ) → is_among n whole ≡ true → is_among n o.places ≡ false → idle n ≡ true
          others_idle n w m = idle_by n m (one_of_two (is_among n rs) (is_among n own) (sym (among-append n rs own) ∙ in_both n ∙ w))

          abbrev keeps : ℕ → Bool
          keeps n = is_among n o.places || not (idle n)

          rising : IsStrictlySortedBy nat_cmp o.places
          rising = sorted_from_strictly_increasing o.places (rising_once_sorted (all_of s) o.places (distinct cs (all_of s) (all_in_order cs ps in_order at s h)) b.same b.rising)

          run_is : o.places ≡ filter keeps whole
          run_is =
              same_sorted nat_cmp nat_cmp_total same_number o.places (filter keeps whole)
              (λ n. kept_by (is_among n o.places) (is_among n whole) (idle n) (in_whole n) (others_idle n) ∙ sym (among-filter keeps n whole))
              rising (IsStrictlySortedBy-filter nat_cmp keeps whole (rising-places_from 0 (goes_to at.low at.end) cs))

          run_of_share : has_any s ≡ true → IsRunOf cs at o
          run_of_share a = record {
            pid = b.pid ∙ h.pid;
            some = sym (same_some (all_of s) o.places (λ n. among-permutation n (all_of s) o.places b.same)) ∙ sym (some_of_both s.own s.reaching) ∙ a;
            keeps = keeps;
            places = run_is;
            idle = λ n k. not_kept (is_among n o.places) (idle n) k;
          }

    -- the shares of pages, each in the order of the batch, are the pages' runs
    pub runs_of_shares : {ats : List Place} {ss : List Share} → AreSharesFor cs ps ats ss → (os : List Route) → AreInBatchOrder ss os → AreRunsOf cs ats os
    runs_of_shares (AreSharesFor.none) [] a = AreRunsOf.none
    runs_of_shares (AreSharesFor.none) (o ∷ os) a = absurd a
    runs_of_shares (AreSharesFor.next at s h any r) [] a = absurd a
    runs_of_shares (AreSharesFor.next at s h any r) (o ∷ os) a = AreRunsOf.next at o (run_of_share at s h o a.0 sorted.in_order any) (runs_of_shares r os a.1)
    runs_of_shares (AreSharesFor.left_out at e f r) os a = AreRunsOf.left_out at (nothing_goes at e f) (runs_of_shares r os a)
