-- The shares of a level's pages, each in the order of the batch, are the routes to them.
use Rattle.std.specs.Prelude.{◌≡◌, ℕ, ◌+◌, ◌<◌, Bool, ◌&&◌, ◌||◌, List, [], ◌∷◌, ◌++◌, length, take, slice_get, Option, Some, None}
use Rattle.std.proofs.Common.{refl, sym, ap, subst, ◌∙◌, get_or, arith}
use Rattle.std.specs.List.{filter}
use Rattle.std.specs.List.Sorted.{IsPermutation, IsNonDecreasing}
use Rattle.std.proofs.lemmas.List.{map-append, take_more}
use Rattle.std.proofs.lemmas.List.Sorted.{IsPermutation-refl, IsPermutation-trans, IsPermutation-append_comm}
use Rattle.std.proofs.lemmas.List.Kept.{IsStrictlySortedBy-filter}
use Rattle.keys.specs.CommandKey.{key_of}
use Rattle.keys.specs.Places.{is_some_that}
use Rattle.keys.specs.declared.command.Command.{Command}
use Rattle.index_page.specs.Range.{is_within}
use Rattle.mapping.specs.FreshPids.{is_among}
use Rattle.routing.specs.BatchKeys.{key_or_empty}
use Rattle.routing.specs.Keyed.{Keyed, places_of}
use Rattle.routing.specs.Routes.{Route, has_some}
use Rattle.routing.specs.SortedPlaces.{order_of_places, AreSortedPlaces, begins_in, reaches, reaches_at, AreSortedWithin, AreSortedReaching}
use Rattle.routing.specs.Shares.{Share, all_of, Lent, share_of_lent, lent_shares, is_in_range, shares, IsInBatchOrder, AreInBatchOrder}
use Rattle.routing.proofs.RouteLemmas.{among-places, within_all}
use Rattle.routing.proofs.SortLemmas.{among_itself}
use Rattle.routing.proofs.SliceLemmas.{sorted_within_all, among-filter}

-- one more, after the others
pub order-push : (ss : List Share) (os : List Route) (s : Share) (o : Route) → AreInBatchOrder ss os → IsInBatchOrder s o → AreInBatchOrder (ss ++ s ∷ []) (os ++ o ∷ [])
order-push [] [] s o a h = (h, tt)
order-push [] (p ∷ os) s o a h = absurd a
order-push (q ∷ ss) [] s o a h = absurd a
order-push (q ∷ ss) (p ∷ os) s o a h = (a.0, order-push ss os s o a.1 h)

pub order_step : (shares : List Lent) (i : ℕ) (d l : Lent) (os new : List Route) (o : Route) → i < length shares → l ≡ get_or shares i d → AreInBatchOrder (lent_shares (take i shares)) os → new ≡ os ++ o ∷ [] → IsInBatchOrder (share_of_lent l) o
    → AreInBatchOrder (lent_shares (take (i + 1) shares)) new
order_step shares i d l os new o w t a e h =
    let more : lent_shares (take (i + 1) shares) ≡ lent_shares (take i shares) ++ share_of_lent l ∷ [] =
    ap (λ (ss : List Lent). lent_shares ss) (take_more shares i d w) ∙ map-append share_of_lent (take i shares) (get_or shares i d ∷ []) ∙ ap (λ (x : Lent). lent_shares (take i shares) ++ share_of_lent x ∷ []) (sym t) in
    rw (more, e) (order-push (lent_shares (take i shares)) os (share_of_lent l) o a h)

-- the share's parts, as they were read
pub same_parts : (l : Lent) (ks : List Keyed) (rs qs : List ℕ) → ks ≡ l.keyed → rs ≡ l.reaching → IsPermutation (places_of ks ++ rs) qs → IsPermutation (all_of (share_of_lent l)) qs
same_parts l ks rs qs e f p =
    let turned : IsPermutation (rs ++ places_of ks) qs = IsPermutation-trans (rs ++ places_of ks) (places_of ks ++ rs) qs (IsPermutation-append_comm rs (places_of ks)) p in
    subst (λ (x : List ℕ). IsPermutation (x ++ places_of l.keyed) qs) f (subst (λ (x : List Keyed). IsPermutation (rs ++ places_of x) qs) e turned)

pub same_order : (s : Share) (o p : Route) → o ≡ p → IsInBatchOrder s p → IsInBatchOrder s o
same_order s o p e h = subst (λ (x : Route). IsInBatchOrder s x) (sym e) h

-- ---- a share of one place

rises_alone : (n : ℕ) → IsNonDecreasing (n ∷ [])
rises_alone n = λ i j d l w. let same : i ≡ j = omega arith in rw same (omega arith)

one_alone : (ks : List Keyed) (rs : List ℕ) (d : Keyed) → length ks ≡ 1 → length rs ≡ 0 → rs ++ places_of ks ≡ (get_or ks 0 d).1 ∷ []
one_alone [] rs d h k = absurd (omega arith)
one_alone (x ∷ []) [] d h k = refl
one_alone (x ∷ []) (r ∷ rs) d h k = absurd (omega arith)
one_alone (x ∷ y ∷ ks) rs d h k = absurd (omega arith)

-- a share of one place is in order as it is
pub order_of_one : (l : Lent) (ks : List Keyed) (rs : List ℕ) (d : Keyed) (o : Route) → ks ≡ l.keyed → rs ≡ l.reaching → length ks ≡ 1 → length rs ≡ 0 → o.pid ≡ l.pid → o.places ≡ (get_or ks 0 d).1 ∷ [] → IsInBatchOrder (share_of_lent l) o
order_of_one l ks rs d o e f h k p n =
    let all : all_of (share_of_lent l) ≡ o.places = ap (λ (xs : List ℕ). xs ++ places_of l.keyed) (sym f) ∙ ap (λ (xs : List Keyed). rs ++ places_of xs) (sym e) ∙ one_alone ks rs d h k ∙ sym n in
    record {
      pid = p;
      same = subst (λ (xs : List ℕ). IsPermutation (all_of (share_of_lent l)) xs) all (IsPermutation-refl (all_of (share_of_lent l)));
      rising = subst (λ (xs : List ℕ). IsNonDecreasing xs) (sym n) (rises_alone (get_or ks 0 d).1);
    }

-- lists that have the same among them are both empty, or neither is
pub same_some : (xs ys : List ℕ) → ((n : ℕ) → is_among n xs ≡ is_among n ys) → has_some xs ≡ has_some ys
same_some [] [] e = refl
same_some [] (y ∷ ys) e = absurd (let h = among_itself y ys in let g = e y in cc)
same_some (x ∷ xs) [] e = absurd (let h = among_itself x xs in let g = e x in cc)
same_some (x ∷ xs) (y ∷ ys) e = refl

pub some_of_both : (xs ys : List ℕ) → (has_some xs || has_some ys) ≡ has_some (ys ++ xs)
some_of_both [] [] = refl
some_of_both [] (y ∷ ys) = refl
some_of_both (x ∷ xs) [] = refl
some_of_both (x ∷ xs) (y ∷ ys) = refl

module _ {A : Type 0} (cs : List (Command A)) where
  own_by : (o : Option (Command A)) (low : List ℕ) (end : Option (List ℕ)) (n : ℕ) → slice_get cs n ≡ o → (is_some_that (begins_in [] None) o && is_in_range cs low end n) ≡ is_some_that (begins_in low end) o
  own_by None low end n e = refl
  own_by (Some c) low end n e =
      let own : is_in_range cs low end n ≡ is_within low end (key_of c) = ap (λ (o : Option (Command A)). is_within low end (key_or_empty o)) e in
      rw (within_all (key_of c)) own

  reach_by : (o : Option (Command A)) (low : List ℕ) → (is_some_that (begins_in [] None) o && is_some_that (reaches low) o) ≡ is_some_that (reaches low) o
  reach_by None low = refl
  reach_by (Some c) low = rw (within_all (key_of c)) refl

  among_sorted : (ps : List ℕ) → AreSortedPlaces cs ps → (n : ℕ) → is_among n ps ≡ is_some_that (begins_in [] None) (slice_get cs n)
  among_sorted ps h n = (sorted_within_all cs ps h).own n ∙ among-places n (begins_in [] None) cs

  -- of the sorted places, those in a range are the sorted places of the range
  pub sorted_in_range : (low : List ℕ) (end : Option (List ℕ)) (ps : List ℕ) → AreSortedPlaces cs ps → AreSortedWithin low end cs (filter (is_in_range cs low end) ps)
  sorted_in_range low end ps h = record {
    own = λ n.
        among-filter (is_in_range cs low end) n ps
        ∙ ap (λ (b : Bool). b && is_in_range cs low end n) (among_sorted ps h n)
        ∙ own_by (slice_get cs n) low end n refl
        ∙ sym (among-places n (begins_in low end) cs);
    in_order = IsStrictlySortedBy-filter (order_of_places cs) (is_in_range cs low end) ps h.in_order;
  }

  -- and those that reach a page are the sorted places of what does
  pub sorted_reaching : (low : List ℕ) (ps : List ℕ) → AreSortedPlaces cs ps → AreSortedReaching low cs (filter (reaches_at cs low) ps)
  sorted_reaching low ps h = record {
    own = λ n.
        among-filter (reaches_at cs low) n ps
        ∙ ap (λ (b : Bool). b && reaches_at cs low n) (among_sorted ps h n)
        ∙ reach_by (slice_get cs n) low
        ∙ sym (among-places n (reaches low) cs);
    in_order = IsStrictlySortedBy-filter (order_of_places cs) (reaches_at cs low) ps h.in_order;
  }
