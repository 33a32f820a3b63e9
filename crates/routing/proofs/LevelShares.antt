-- Lemmas on the shares of a level's pages, without some idle places: how they are distributed from level to level.
use Rattle.std.specs.Prelude.{◌≡◌, ◌⊎◌, ℕ, suc, pred, ◌+◌, ◌<◌, Bool, true, false, not, ◌&&◌, ◌||◌, cond, List, [], ◌∷◌, ◌++◌, flat_map, length, slice_get, Option, Some, None}
use Rattle.std.proofs.Common.{refl, sym, ap, ◌∙◌, subst, arith, inl, inr}
use Rattle.std.specs.List.{AllByRecursion, filter, list_any}
use Rattle.std.specs.List.Sorted.{IsStrictlySortedBy}
use Rattle.std.specs.Map.{keys_of}
use Rattle.std.proofs.lemmas.Bool.{and_parts}
use Rattle.std.proofs.lemmas.List.Elements.{filter-append}
use Rattle.std.proofs.lemmas.List.Kept.{IsStrictlySortedBy-filter}
use Rattle.keys.specs.Footprint.{Span, One, Range, Access, Looks, Gives, Takes, span_of, access_of}
use Rattle.keys.specs.Places.{is_some_that}
use Rattle.keys.specs.declared.command.Command.{Command}
use Rattle.keys.proofs.MapLemmas.{total}
use Rattle.index_page.specs.Page.{PageOfKind}
use Rattle.index_page.specs.Page.PageOfKind.{Index}
use Rattle.index_page.specs.Range.{is_below, is_before, AreFrom, AreBefore, IsBefore}
use Rattle.index_page.specs.Rules.{IsHeaded}
use Rattle.index_page.specs.Children.{Place, children, child_entries, HasChildFor}
use Rattle.index_page.proofs.ListLemmas.{all_weaker}
use Rattle.index_page.proofs.PageLemmas.{all_keys_entries}
use Rattle.index_page.proofs.RangeLemmas.{below_is_less, less_is_below, less_through}
use Rattle.index_page.proofs.ChildLemmas.{children-cons, children-append, within_parts}
use Rattle.mapping.specs.FreshPids.{is_among}
use Rattle.mapping.specs.Tree.{Tree, page_at}
use Rattle.mapping.specs.Levels as levels
use Rattle.mapping.specs.Levels.{Placed, joined, name, names, levels_of}
use Rattle.mapping.specs.Proper.{next_low, IsTile, AreLevels, HoldsLevels}
use Rattle.mapping.proofs.PidLemmas.{all_among}
use Rattle.mapping.proofs.TileLemmas.{Separators, next_names, rising-tile}
use Rattle.mapping.proofs.Joined.{next_joined}
use Rattle.routing.specs.BatchKeys.{key_at}
use Rattle.routing.specs.Idle.{gives_at, covers, clears, empties, empties_at}
use Rattle.routing.specs.Routes.{has_some, ranges}
use Rattle.routing.specs.SortedPlaces.{order_of_places, AreInKeyOrder, reaches_page, reaches, reaches_at}
use Rattle.routing.specs.Shares.{Share, all_of, has_any, HasEachPlaceOnce, is_in_range, shares, root_shares, without_idle, CanHandDown, CanHandDownShare, index_under, IsReadyShare, share_below}
use Rattle.routing.proofs.RouteLemmas.{among-append, one_of_two}
use Rattle.routing.proofs.SliceLemmas.{IsBelowKey, IsFromKey, reaching_below, in_order-append, distinct, none_reach_by}
use Rattle.routing.proofs.ShareLemmas.{all_passed, filter_none, all_begin}
use Rattle.routing.proofs.DescentLemmas.{IsIndexLevel, gets, gets_parted, last_narrowed, own_narrowed, reaching_narrowed, child_above, reaches_child, second_before, entry_before, found_under, entries_before, names_at, level_at, names-leaves}
use Rattle.routing.proofs.IdleLemmas.{IsLeftOut, none_among, none_there, among_passing, among_kept, stays_there, stays_or_not, stays_in_order}

-- ---- a share for a page

-- a share for the page at this place, from these places of the batch: those that begin in it, and those that reach it, without some after a wipe of
-- the whole page if nothing is put into it
pub record IsShareFor {A : Type 0} (cs : List (Command A)) (ps : List ℕ) (at : Place) (s : Share) : Type 0 where
  pub pid : s.pid ≡ at.pid
  pub own : s.own ≡ filter (is_in_range cs at.low at.end) ps
  pub in_order : AreInKeyOrder cs s.reaching
  pub there : (p : ℕ) → is_among p s.reaching ≡ true → (is_among p ps ≡ true) × (reaches_at cs at.low p ≡ true)
  pub each : (p : ℕ) → is_among p ps ≡ true → reaches_at cs at.low p ≡ true → (is_among p s.reaching ≡ true) ⊎ IsLeftOut cs at.end s.own s.reaching p

-- shares for the pages at these places; pages without commands have none
pub data AreSharesFor {A : Type 0} (cs : List (Command A)) (ps : List ℕ) : List Place → List Share → Type 0 where
  none : AreSharesFor cs ps [] []
  next : {ats : List Place} {ss : List Share} → (at : Place) → (s : Share) → IsShareFor cs ps at s → has_any s ≡ true → AreSharesFor cs ps ats ss → AreSharesFor cs ps (at ∷ ats) (s ∷ ss)
  left_out : {ats : List Place} {ss : List Share} → (at : Place) → filter (is_in_range cs at.low at.end) ps ≡ [] → filter (reaches_at cs at.low) ps ≡ [] → AreSharesFor cs ps ats ss → AreSharesFor cs ps (at ∷ ats) ss

-- ---- what takes all of a page takes all of each of its children

below_through : (a b c : List ℕ) → is_below a b ≡ true → IsBefore (Some c) b → is_below a c ≡ true
below_through a b c h l = less_is_below a c (total.trans a b c (below_is_less a b h) l)

not_below : (b : Bool) (h f e : List ℕ) → is_below h f ≡ b → IsBefore (Some e) f → not (is_below h e) ≡ true → not b ≡ true
not_below false h f e c l n = refl
not_below true h f e c l n = absurd (let t = below_through h f e c l in let m : not (is_below h e) ≡ false = rw t refl in cc)

not_true : (b : Bool) → not b ≡ true → b ≡ false
not_true true h = absurd (cc)
not_true false h = refl

covers_any : (end hi : Option (List ℕ)) → covers None hi ≡ true → covers end hi ≡ true
covers_any end None h = refl
covers_any end (Some hi) h = absurd (cc)

covers_nearer : (end : Option (List ℕ)) (f : List ℕ) (hi : Option (List ℕ)) → IsBefore end f → covers end hi ≡ true → covers (Some f) hi ≡ true
covers_nearer end f None l h = refl
covers_nearer None f (Some hi) l h = absurd (cc)
covers_nearer (Some e) f (Some hi) l h = not_below (is_below hi f) hi f e refl l h

before_covered : (end : Option (List ℕ)) (low : List ℕ) (hi : Option (List ℕ)) → IsBefore end low → covers end hi ≡ true → is_before hi low ≡ true
before_covered end low None l h = refl
before_covered None low (Some hi) l h = absurd (cc)
before_covered (Some e) low (Some hi) l h = less_is_below low hi (less_through low hi e (less_is_below low e l) (not_true (is_below hi e) h))

clears_any : (end : Option (List ℕ)) (d : Access) (s : Span) → clears None d s ≡ true → clears end d s ≡ true
clears_any end Looks s h = absurd (cc)
clears_any end (Gives v) s h = absurd (cc)
clears_any end Takes (One k) h = absurd (cc)
clears_any end Takes (Range lo hi) h = covers_any end hi h

clears_nearer : (end : Option (List ℕ)) (f : List ℕ) (d : Access) (s : Span) → IsBefore end f → clears end d s ≡ true → clears (Some f) d s ≡ true
clears_nearer end f Looks s l h = absurd (cc)
clears_nearer end f (Gives v) s l h = absurd (cc)
clears_nearer end f Takes (One k) l h = absurd (cc)
clears_nearer end f Takes (Range lo hi) l h = covers_nearer end f hi l h

reached_by : (b : Bool) (low e lo : List ℕ) → is_below lo low ≡ true → is_below e low ≡ false → is_below lo e ≡ b → b ≡ true
reached_by true low e lo h n c = refl
reached_by false low e lo h n c = absurd (let l = less_is_below lo e (less_through lo e low h n) in cc)

span_reaches_on : (low : List ℕ) (end : Option (List ℕ)) (e : List ℕ) (d : Access) (s : Span) → is_below e low ≡ false → IsBefore end e → reaches_page low s ≡ true → clears end d s ≡ true → reaches_page e s ≡ true
span_reaches_on low end e Looks s n l r h = absurd (cc)
span_reaches_on low end e (Gives v) s n l r h = absurd (cc)
span_reaches_on low end e Takes (One k) n l r h = absurd (cc)
span_reaches_on low end e Takes (Range lo hi) n l r h =
    let parts = and_parts (is_below lo low) (is_before hi low) r in
    rw (reached_by (is_below lo e) low e lo parts.0 n refl, before_covered end e hi l h) refl

module _ {A : Type 0} where
  any_by : (end : Option (List ℕ)) (o : Option (Command A)) → is_some_that (empties None) o ≡ true → is_some_that (empties end) o ≡ true
  any_by end None h = absurd (cc)
  any_by end (Some c) h = clears_any end (access_of c) (span_of c) h

  nearer_by : (end : Option (List ℕ)) (f : List ℕ) (o : Option (Command A)) → IsBefore end f → is_some_that (empties end) o ≡ true → is_some_that (empties (Some f)) o ≡ true
  nearer_by end f None l h = absurd (cc)
  nearer_by end f (Some c) l h = clears_nearer end f (access_of c) (span_of c) l h

  on_by : (low : List ℕ) (end : Option (List ℕ)) (e : List ℕ) (o : Option (Command A)) → is_below e low ≡ false → IsBefore end e → is_some_that (reaches low) o ≡ true → is_some_that (empties end) o ≡ true → is_some_that (reaches e) o ≡ true
  on_by low end e None n l r h = absurd (cc)
  on_by low end e (Some c) n l r h = span_reaches_on low end e (access_of c) (span_of c) n l r h

-- ---- lists

given_by : (f : ℕ → Bool) (b c : Bool) (x : ℕ) (xs ys : List ℕ) → f x ≡ b → (b || list_any f xs) ≡ false → (list_any f xs ≡ false → list_any f ys ≡ false) → list_any f (cond c (x ∷ ys) ys) ≡ false
given_by f true c x xs ys e h g = absurd (cc)
given_by f false true x xs ys e h g = rw e (g h)
given_by f false false x xs ys e h g = g h

-- what is found nowhere is found in no part
pub none_in_part : (f g : ℕ → Bool) (xs : List ℕ) → list_any f xs ≡ false → list_any f (filter g xs) ≡ false
none_in_part f g [] h = refl
none_in_part f g (x ∷ xs) h = given_by f (f x) (g x) x xs (filter g xs) refl h (none_in_part f g xs)

module _ {A : Type 0} (cs : List (Command A)) (ps : List ℕ) (in_order : AreInKeyOrder cs ps) where
  abbrev begun : Place → List ℕ
  begun at = filter (is_in_range cs at.low at.end) ps

  -- a child of the page at a place, whose range may be taken to have this end
  record IsChild (up at : Place) (end : Option (List ℕ)) : Type 0 where
    own : filter (is_in_range cs at.low at.end) ps ≡ filter (is_in_range cs at.low end) (filter (gets cs up.low up.end) ps)
    reaching : filter (reaches_at cs at.low) ps ≡ filter (reaches_at cs at.low) (filter (gets cs up.low up.end) ps)
    above : is_below at.low up.low ≡ false
    before : IsBefore up.end at.low
    wider : (w : ℕ) → empties_at cs end w ≡ true → empties_at cs at.end w ≡ true
    nearer : (w : ℕ) → empties_at cs up.end w ≡ true → empties_at cs at.end w ≡ true

  module _ (up : Place) (s : Share) (h : IsShareFor cs ps up s) where
    all_below : (e : List ℕ) → is_below e up.low ≡ false → AllByRecursion (λ q. is_below (key_at cs q) e ≡ true) s.reaching
    all_below e n = all_weaker (λ q. is_among q s.reaching ≡ true) (λ q. is_below (key_at cs q) e ≡ true) (λ q m. child_above cs up.low up.end e q n (h.there q m).1) s.reaching (all_among s.reaching)

    all_from : AllByRecursion (IsFromKey cs up.low) s.own
    all_from = subst (λ (xs : List ℕ). AllByRecursion (IsFromKey cs up.low) xs) (sym h.own)
        (all_weaker (λ q. is_in_range cs up.low up.end q ≡ true) (IsFromKey cs up.low) (λ q w. (within_parts up.low up.end (key_at cs q) w).0) (begun up) (all_passed (is_in_range cs up.low up.end) ps))

    own_in_order : AreInKeyOrder cs s.own
    own_in_order = subst (λ (xs : List ℕ). AreInKeyOrder cs xs) (sym h.own) (IsStrictlySortedBy-filter (order_of_places cs) (is_in_range cs up.low up.end) ps in_order)

    reaching_all_below : AllByRecursion (IsBelowKey cs up.low) s.reaching
    reaching_all_below = all_weaker (λ q. is_among q s.reaching ≡ true) (IsBelowKey cs up.low) (λ q m. reaching_below cs up.low q (h.there q m).1) s.reaching (all_among s.reaching)

    -- a share's places are in key order
    pub all_in_order : AreInKeyOrder cs (all_of s)
    all_in_order = in_order-append cs up.low s.reaching s.own reaching_all_below all_from h.in_order own_in_order

    -- ---- a child

    module _ (at : Place) (end : Option (List ℕ)) (child : IsChild up at end) where
      abbrev inside : ℕ → Bool
      inside = is_in_range cs at.low end

      abbrev reach : ℕ → Bool
      reach = reaches_at cs at.low

      abbrev all : List ℕ
      all = all_of s

      -- nothing that reaches a page begins in its children
      none_inside : (rs : List ℕ) → AllByRecursion (λ q. is_below (key_at cs q) at.low ≡ true) rs → filter inside rs ≡ []
      none_inside rs a = filter_none inside rs (all_weaker (λ q. is_below (key_at cs q) at.low ≡ true) (λ q. inside q ≡ false) (λ q b. out (is_below (key_at cs q) at.low) (is_before end (key_at cs q)) b) rs a)
        where
          out : (b c : Bool) → b ≡ true → (not b && c) ≡ false
          out true c e = refl
          out false c e = absurd (cc)

      own_only : filter inside all ≡ filter inside s.own
      own_only = filter-append inside s.reaching s.own ∙ ap (λ (xs : List ℕ). xs ++ filter inside s.own) (none_inside s.reaching (all_below at.low child.above))

      same_own : filter inside all ≡ begun at
      same_own =
          let rs = filter (reaches_at cs up.low) ps in
          let below = all_weaker (λ q. reaches_at cs up.low q ≡ true) (λ q. is_below (key_at cs q) at.low ≡ true) (λ q m. child_above cs up.low up.end at.low q child.above m) rs (all_passed (reaches_at cs up.low) ps) in
          own_only ∙ ap (λ (xs : List ℕ). filter inside xs) h.own
          ∙ sym (child.own ∙ ap (λ (xs : List ℕ). filter inside xs) (gets_parted cs up.low up.end ps in_order) ∙ filter-append inside rs (begun up) ∙ ap (λ (xs : List ℕ). xs ++ filter inside (begun up)) (none_inside rs below))

      abbrev own : List ℕ
      own = filter inside all

      abbrev reached : List ℕ
      reached = filter reach all

      abbrev stay : List ℕ
      stay = without_idle cs end own reached

      none_given : list_any (gives_at cs) s.own ≡ false → list_any (gives_at cs) own ≡ false
      none_given n = ap (λ (xs : List ℕ). list_any (gives_at cs) xs) own_only ∙ none_in_part (gives_at cs) inside s.own n

      there_by : (p : ℕ) → (is_among p s.reaching ≡ true) ⊎ (is_among p s.own ≡ true) → is_among p ps ≡ true
      there_by p (inl m) = (h.there p m).0
      there_by p (inr m) = (among_passing (is_in_range cs up.low up.end) p ps (subst (λ (xs : List ℕ). is_among p xs ≡ true) h.own m)).0

      stays_are_there : (p : ℕ) → is_among p stay ≡ true → (is_among p ps ≡ true) × (reach p ≡ true)
      stays_are_there p m =
          let found = among_passing reach p all (stays_there cs end own reached p m) in
          (there_by p (one_of_two (is_among p s.reaching) (is_among p s.own) (sym (among-append p s.reaching s.own) ∙ found.0)), found.1)

      -- what takes all up to the end that is taken takes all of the child
      widened : (p : ℕ) → (is_among p stay ≡ true) ⊎ IsLeftOut cs end own stay p → (is_among p stay ≡ true) ⊎ IsLeftOut cs at.end own stay p
      widened p (inl m) = inl m
      widened p (inr l) = inr (record { none = l.none; last = l.last; kept = l.kept; before = l.before; empties = child.wider l.last l.empties })

      of_all : (p : ℕ) → is_among p all ≡ true → reach p ≡ true → (is_among p stay ≡ true) ⊎ IsLeftOut cs at.end own stay p
      of_all p m r = widened p (stays_or_not cs end own reached p (among_kept reach p all m r))

      in_reaching : (p : ℕ) → is_among p s.reaching ≡ true → is_among p all ≡ true
      in_reaching p m = among-append p s.reaching s.own ∙ rw m refl

      in_own : (p : ℕ) → is_among p s.own ≡ true → is_among p all ≡ true
      in_own p m = among-append p s.reaching s.own ∙ rw m (or_true (is_among p s.reaching))
        where
          or_true : (b : Bool) → (b || true) ≡ true
          or_true true = refl
          or_true false = refl

      -- what was left out above is left out here: what takes all of the page stays here, or something before it that takes all of the child
      later_by : (p w : ℕ) → list_any (gives_at cs) own ≡ false → w < p → empties_at cs at.end w ≡ true → (is_among w stay ≡ true) ⊎ IsLeftOut cs at.end own stay w → IsLeftOut cs at.end own stay p
      later_by p w n l e (inl m) = record { none = n; last = w; kept = m; before = l; empties = e }
      later_by p w n l e (inr o) = let b = o.before in record { none = n; last = o.last; kept = o.kept; before = omega (arith, l, b); empties = o.empties }

      still_out : (p : ℕ) → IsLeftOut cs up.end s.own s.reaching p → IsLeftOut cs at.end own stay p
      still_out p l =
          let on : reach l.last ≡ true = on_by up.low up.end at.low (slice_get cs l.last) child.above child.before (h.there l.last l.kept).1 l.empties in
          later_by p l.last (none_given l.none) l.before (child.nearer l.last l.empties) (of_all l.last (in_reaching l.last l.kept) on)

      of_reaching : (p : ℕ) → reach p ≡ true → (is_among p s.reaching ≡ true) ⊎ IsLeftOut cs up.end s.own s.reaching p → (is_among p stay ≡ true) ⊎ IsLeftOut cs at.end own stay p
      of_reaching p r (inl m) = of_all p (in_reaching p m) r
      of_reaching p r (inr l) = inr (still_out p l)

      of_got : (p : ℕ) → is_among p ps ≡ true → reach p ≡ true → (reaches_at cs up.low p ≡ true) ⊎ (is_in_range cs up.low up.end p ≡ true) → (is_among p stay ≡ true) ⊎ IsLeftOut cs at.end own stay p
      of_got p m r (inl g) = of_reaching p r (h.each p m g)
      of_got p m r (inr g) = of_all p (in_own p (subst (λ (xs : List ℕ). is_among p xs ≡ true) (sym h.own) (among_kept (is_in_range cs up.low up.end) p ps m g))) r

      each_place : (p : ℕ) → is_among p ps ≡ true → reach p ≡ true → (is_among p stay ≡ true) ⊎ IsLeftOut cs at.end own stay p
      each_place p m r =
          of_got p m r (one_of_two (reaches_at cs up.low p) (is_in_range cs up.low up.end p) (reaches_child cs up.low up.end at.low (slice_get cs p) child.above child.before r))

      abbrev handed : Share
      handed = record { pid = at.pid; own = own; reaching = stay }

      -- what a child gets is a share for it
      child_share : IsShareFor cs ps at handed
      child_share = record {
        pid = refl;
        own = same_own;
        in_order = stays_in_order cs end own reached (IsStrictlySortedBy-filter (order_of_places cs) reach all all_in_order);
        there = stays_are_there;
        each = each_place;
      }

      nothing_stays : (p : ℕ) → stay ≡ [] → (is_among p stay ≡ true) ⊎ IsLeftOut cs at.end own stay p → ⊥
      nothing_stays p e (inl m) = let n = subst (λ (xs : List ℕ). is_among p xs ≡ true) e m in cc
      nothing_stays p e (inr l) = let n = subst (λ (xs : List ℕ). is_among l.last xs ≡ true) e l.kept in cc

      none_reach_it : stay ≡ [] → filter reach ps ≡ []
      none_reach_it e = none_among (filter reach ps) (λ p m. let both = among_passing reach p ps m in nothing_stays p e (each_place p both.0 both.1))

      handed_by : (b : Bool) (ats : List Place) (ss : List Share) → has_any handed ≡ b → AreSharesFor cs ps ats ss → AreSharesFor cs ps (at ∷ ats) (cond b (handed ∷ ss) ss)
      handed_by true ats ss e a = AreSharesFor.next at handed child_share e a
      handed_by false ats ss e a =
          let two = neither (has_some own) (has_some stay) e in
          AreSharesFor.left_out at (sym same_own ∙ none_there own two.0) (none_reach_it (none_there stay two.1)) a
        where
          neither : (b c : Bool) → (b || c) ≡ false → (b ≡ false) × (c ≡ false)
          neither true c h = absurd (cc)
          neither false c h = (refl, h)

    -- ---- all children

    pub children_shares : (es : Separators) → AreFrom up.low (keys_of es) → AreBefore up.end (keys_of es) → AreSharesFor cs ps (children es up.end) (shares cs (all_of s) (children es None))
    children_shares [] a b = AreSharesFor.none
    children_shares (e ∷ []) a b =
        let at : Place = record { pid = e.1; low = e.0; end = up.end } in
        let child : IsChild up at None = record {
          own = last_narrowed cs up.low up.end e ps a;
          reaching = reaching_narrowed cs up.low up.end e [] ps a b;
          above = a.0;
          before = entry_before up.end e [] b;
          wider = λ w m. any_by up.end (slice_get cs w) m;
          nearer = λ w m. m;
        } in
        handed_by at None child (has_any (handed at None child)) [] [] refl AreSharesFor.none
    children_shares (e ∷ f ∷ es) a b =
        let at : Place = record { pid = e.1; low = e.0; end = Some f.0 } in
        let two = second_before up.end e f es b in
        let child : IsChild up at (Some f.0) = record {
          own = own_narrowed cs up.low up.end e f es ps a two.0;
          reaching = reaching_narrowed cs up.low up.end e (f ∷ es) ps a b;
          above = a.0;
          before = entry_before up.end e (f ∷ es) b;
          wider = λ w m. m;
          nearer = λ w m. nearer_by up.end f.0 (slice_get cs w) two.0 m;
        } in
        handed_by at (Some f.0) child (has_any (handed at (Some f.0) child)) (children (f ∷ es) up.end) (shares cs (all_of s) (children (f ∷ es) None)) refl (children_shares (f ∷ es) a.1 two.1)

-- ---- a level

module _ {A : Type 0} (cs : List (Command A)) (ps : List ℕ) (in_order : AreInKeyOrder cs ps) where
  appended : {ats bts : List Place} {ss ts : List Share} → AreSharesFor cs ps ats ss → AreSharesFor cs ps bts ts → AreSharesFor cs ps (ats ++ bts) (ss ++ ts)
  appended (AreSharesFor.none) b = b
  appended (AreSharesFor.next at s h a r) b = AreSharesFor.next at s h a (appended r b)
  appended (AreSharesFor.left_out at e f r) b = AreSharesFor.left_out at e f (appended r b)

  -- no share has a place twice
  pub each_once : {ats : List Place} {ss : List Share} → AreSharesFor cs ps ats ss → AllByRecursion HasEachPlaceOnce ss
  each_once (AreSharesFor.none) = tt
  each_once (AreSharesFor.next at s h a r) = (distinct cs (all_of s) (all_in_order cs ps in_order at s h), each_once r)
  each_once (AreSharesFor.left_out at e f r) = each_once r

  -- the children of a page that gets nothing get nothing
  module _ (up : Place) (e : filter (is_in_range cs up.low up.end) ps ≡ []) (f : filter (reaches_at cs up.low) ps ≡ []) where
    nothing_got : filter (gets cs up.low up.end) ps ≡ []
    nothing_got = gets_parted cs up.low up.end ps in_order ∙ ap (λ (xs : List ℕ). xs ++ filter (is_in_range cs up.low up.end) ps) f ∙ e

    of_nothing : (g : ℕ → Bool) → filter g (filter (gets cs up.low up.end) ps) ≡ []
    of_nothing g = ap (λ (xs : List ℕ). filter g xs) nothing_got

    nothing_for : (es : Separators) → AreFrom up.low (keys_of es) → AreBefore up.end (keys_of es) → AreSharesFor cs ps (children es up.end) []
    nothing_for [] a b = AreSharesFor.none
    nothing_for (x ∷ []) a b =
        AreSharesFor.left_out (record { pid = x.1; low = x.0; end = up.end }) (last_narrowed cs up.low up.end x ps a ∙ of_nothing (is_in_range cs x.0 None)) (reaching_narrowed cs up.low up.end x [] ps a b ∙ of_nothing (reaches_at cs x.0)) AreSharesFor.none
    nothing_for (x ∷ y ∷ es) a b =
        let two = second_before up.end x y es b in
        AreSharesFor.left_out (record { pid = x.1; low = x.0; end = Some y.0 }) (own_narrowed cs up.low up.end x y es ps a two.0 ∙ of_nothing (is_in_range cs x.0 (Some y.0))) (reaching_narrowed cs up.low up.end x (y ∷ es) ps a b ∙ of_nothing (reaches_at cs x.0))
        (nothing_for (y ∷ es) a.1 two.1)

  module _ (pages : List (ℕ × PageOfKind)) where
    abbrev below : List Share → List Share
    below ss = flat_map (share_below pages cs) ss

    none_below : {ss : List Share} {ats : List Place} → ats ≡ [] → AreSharesFor cs ps ats ss → AreSharesFor cs ps [] (below ss)
    none_below e (AreSharesFor.none) = AreSharesFor.none
    none_below e (AreSharesFor.next at s h a r) = absurd (cc)
    none_below e (AreSharesFor.left_out at f g r) = absurd (cc)

    abbrev place_of : Placed ℕ → Option (List ℕ) → Place
    place_of p end = record { pid = p.pid; low = p.page.low; end = end }

    from_own : (p : Placed ℕ) (end : Option (List ℕ)) → IsTile end p → AreFrom p.page.low (keys_of (levels.entries p))
    from_own p end tile = all_keys_entries (λ j. is_below j p.page.low ≡ false) p.page tile.keys.from

    -- what becomes of a page's share
    handed_down : (p : Placed ℕ) (end : Option (List ℕ)) (s : Share) → page_at pages p.pid ≡ Some (Index p.page) → IsTile end p → IsShareFor cs ps (place_of p end) s → AreSharesFor cs ps (children (levels.entries p) end) (share_below pages cs s)
    handed_down p end s held tile h =
        let page : index_under pages s.pid ≡ Index p.page = ap (λ (n : ℕ). index_under pages n) h.pid ∙ found_under cs pages p held in
        subst (λ (q : PageOfKind). AreSharesFor cs ps (children (levels.entries p) end) (shares cs (all_of s) (children (child_entries q) None))) (sym page)
        (children_shares cs ps in_order (place_of p end) s h (levels.entries p) (from_own p end tile) (entries_before cs pages end p tile))

    level_by : (p : Placed ℕ) (end : Option (List ℕ)) (ats bts : List Place) (ss : List Share) (xs : List Place) → page_at pages p.pid ≡ Some (Index p.page) → IsTile end p → xs ≡ place_of p end ∷ ats
        → ((ts : List Share) → AreSharesFor cs ps ats ts → AreSharesFor cs ps bts (below ts)) → AreSharesFor cs ps xs ss → AreSharesFor cs ps (children (levels.entries p) end ++ bts) (below ss)
    level_by p end ats bts ss xs held tile e f (AreSharesFor.none) = absurd (cc)
    level_by p end ats bts ss xs held tile e f (AreSharesFor.next {ats = rest} {ss = ts} at s h a r) =
        let same : at ≡ place_of p end = cc in
        let others : rest ≡ ats = cc in
        appended (handed_down p end s held tile (subst (λ (x : Place). IsShareFor cs ps x s) same h)) (f ts (subst (λ (x : List Place). AreSharesFor cs ps x ts) others r))
    level_by p end ats bts ss xs held tile e f (AreSharesFor.left_out {ats = rest} {ss = ts} at g k r) =
        let same : at ≡ place_of p end = cc in
        let others : rest ≡ ats = cc in
        let own = subst (λ (x : Place). filter (is_in_range cs x.low x.end) ps ≡ []) same g in
        let reaching = subst (λ (x : Place). filter (reaches_at cs x.low) ps ≡ []) same k in
        appended (nothing_for (place_of p end) own reaching (levels.entries p) (from_own p end tile) (entries_before cs pages end p tile)) (f ts (subst (λ (x : List Place). AreSharesFor cs ps x ts) others r))

    -- the places of a level's pages, the first and the others
    places_are : (p : Placed ℕ) (up : List (Placed ℕ)) (end : Option (List ℕ)) → children (names (p ∷ up)) end ≡ place_of p (next_low up end) ∷ children (names up) end
    places_are p up end = children-cons (name p) (names up) end ∙ ap (λ (x : Option (List ℕ)). place_of p x ∷ children (names up) end) (next_names up end)

    -- the shares of a level's pages, distributed, are those of the pages below
    pub shares-below : (up : List (Placed ℕ)) (end : Option (List ℕ)) (ss : List Share) → IsIndexLevel pages end up → AreSharesFor cs ps (children (names up) end) ss → AreSharesFor cs ps (children (joined up) end) (below ss)
    shares-below [] end ss l a = none_below refl a
    shares-below (p ∷ up) end ss l a =
        let later : IsIndexLevel pages end up = record { held = l.held.1; headed = l.headed.1; tiled = l.tiled.1 } in
        let es : Separators = levels.entries p in
        let bts : List Place = children (joined up) end in
        let here = level_by p (next_low up end) (children (names up) end) bts ss (children (names (p ∷ up)) end) l.held.0 l.tiled.0 (places_are p up end) (λ ts r. shares-below up end ts later r) a in
        let places : children es (next_low up end) ++ bts ≡ children (joined (p ∷ up)) end = ap (λ (x : Option (List ℕ)). children es x ++ bts) (sym (next_joined up end l.headed.1)) ∙ sym (children-append es (joined up) end) in
        subst (λ (x : List Place). AreSharesFor cs ps x (below ss)) places here

    -- the share of a page can be distributed
    ready_page : (p : Placed ℕ) (end : Option (List ℕ)) (s : Share) → page_at pages p.pid ≡ Some (Index p.page) → IsHeaded 1 p.page → IsTile end p → IsShareFor cs ps (place_of p end) s → IsReadyShare pages cs s
    ready_page p end s held headed tile h =
        let own : List ℕ = filter (is_in_range cs p.page.low end) ps in
        let some : 0 < length (child_entries (Index p.page)) = let n = headed.some in omega arith in
        let has : (q : ℕ) → is_in_range cs p.page.low end q ≡ true → HasChildFor (Index p.page) (key_at cs q) =
        λ q w. (some, subst (λ (k : List ℕ). is_below (key_at cs q) k ≡ false) (sym headed.first) (within_parts p.page.low end (key_at cs q) w).0) in
        let page : index_under pages s.pid ≡ Index p.page = ap (λ (n : ℕ). index_under pages n) h.pid ∙ found_under cs pages p held in
        let can : CanHandDownShare cs (Index p.page) s = record {
          own = subst (λ (xs : List ℕ). CanHandDown cs (Index p.page) xs) (sym h.own) (record {
            in_order = IsStrictlySortedBy-filter (order_of_places cs) (is_in_range cs p.page.low end) ps in_order;
            rising = rising-tile end p tile;
            each = all_weaker (λ q. is_in_range cs p.page.low end q ≡ true) (λ q. HasChildFor (Index p.page) (key_at cs q)) has own (all_passed (is_in_range cs p.page.low end) ps);
          });
          some = some;
          first = headed.first;
          reach = all_weaker (λ q. is_among q s.reaching ≡ true) (λ q. reaches_at cs p.page.low q ≡ true) (λ q m. (h.there q m).1) s.reaching (all_among s.reaching);
        } in
        record {
          held = ap (λ (n : ℕ). page_at pages n) h.pid ∙ held ∙ ap (λ (q : PageOfKind). Some q) (sym page);
          share = subst (λ (q : PageOfKind). CanHandDownShare cs q s) (sym page) can;
        }

    ready_by : (p : Placed ℕ) (end : Option (List ℕ)) (ats : List Place) (ss : List Share) (xs : List Place) → page_at pages p.pid ≡ Some (Index p.page) → IsHeaded 1 p.page → IsTile end p → xs ≡ place_of p end ∷ ats
        → ((ts : List Share) → AreSharesFor cs ps ats ts → AllByRecursion (IsReadyShare pages cs) ts) → AreSharesFor cs ps xs ss → AllByRecursion (IsReadyShare pages cs) ss
    ready_by p end ats ss xs held headed tile e f (AreSharesFor.none) = tt
    ready_by p end ats ss xs held headed tile e f (AreSharesFor.next {ats = rest} {ss = ts} at s h a r) =
        let same : at ≡ place_of p end = cc in
        let others : rest ≡ ats = cc in
        (ready_page p end s held headed tile (subst (λ (x : Place). IsShareFor cs ps x s) same h), f ts (subst (λ (x : List Place). AreSharesFor cs ps x ts) others r))
    ready_by p end ats ss xs held headed tile e f (AreSharesFor.left_out {ats = rest} {ss = ts} at g k r) =
        let others : rest ≡ ats = cc in
        f ts (subst (λ (x : List Place). AreSharesFor cs ps x ts) others r)

    none_ready : {ss : List Share} {ats : List Place} → ats ≡ [] → AreSharesFor cs ps ats ss → AllByRecursion (IsReadyShare pages cs) ss
    none_ready e (AreSharesFor.none) = tt
    none_ready e (AreSharesFor.next at s h a r) = absurd (cc)
    none_ready e (AreSharesFor.left_out at f g r) = absurd (cc)

    -- and so can those of all pages of a level
    pub ready_level : (up : List (Placed ℕ)) (end : Option (List ℕ)) (ss : List Share) → IsIndexLevel pages end up → AreSharesFor cs ps (children (names up) end) ss → AllByRecursion (IsReadyShare pages cs) ss
    ready_level [] end ss l a = none_ready refl a
    ready_level (p ∷ up) end ss l a =
        let later : IsIndexLevel pages end up = record { held = l.held.1; headed = l.headed.1; tiled = l.tiled.1 } in
        ready_by p (next_low up end) (children (names up) end) ss (children (names (p ∷ up)) end) l.held.0 l.headed.0 l.tiled.0 (places_are p up end) (λ ts r. ready_level up end ts later r) a

-- ---- the levels of a tree, from the root down

module _ (t : Tree) (held : HoldsLevels t.pages (levels_of t)) (levels : AreLevels (levels_of t)) {A : Type 0} (cs : List (Command A)) (ps : List ℕ) (in_order : AreInKeyOrder cs ps) where
  -- shares for the pages so far below the root
  abbrev pub AreSharesAt : ℕ → List Share → Type 0
  AreSharesAt i ss = AreSharesFor cs ps (children (names_at t.pages t.root i) None) ss

  by_names : (ns ms : Separators) (ss : List Share) → ns ≡ ms → AreSharesFor cs ps (children ns None) ss → AreSharesFor cs ps (children ms None) ss
  by_names ns ms ss e a = subst (λ (x : Separators). AreSharesFor cs ps (children x None) ss) e a

  abbrev root : Place
  root = record { pid = t.root; low = []; end = None }

  abbrev top : Share
  top = record { pid = t.root; own = ps; reaching = [] }

  for_root : IsShareFor cs ps root top
  unfolding IsStrictlySortedBy
  for_root = record { pid = refl; own = sym (all_begin cs ps); in_order = tt; there = λ p m. absurd (cc); each = λ p m r. absurd (let n = none_reach_by cs (slice_get cs p) in cc) }

  without_false : (b : Bool) → (b || false) ≡ false → b ≡ false
  without_false true h = absurd (cc)
  without_false false h = refl

  top_by : (b : Bool) → has_any top ≡ b → AreSharesFor cs ps (root ∷ []) (cond b (top ∷ []) [])
  top_by true e = AreSharesFor.next root top for_root e AreSharesFor.none
  top_by false e =
      let nothing : ps ≡ [] = none_there ps (without_false (has_some ps) e) in
      AreSharesFor.left_out root (ap (λ (xs : List ℕ). filter (is_in_range cs [] None) xs) nothing) (ap (λ (xs : List ℕ). filter (reaches_at cs []) xs) nothing) AreSharesFor.none

  -- the shares of the root
  pub root_level : (ss : List Share) → ss ≡ root_shares t.root ps → AreSharesAt 0 ss
  root_level ss e = subst (λ (x : List Share). AreSharesAt 0 x) (sym e) (top_by (has_any top) refl)

  -- the shares of a level, distributed, are those of the next level
  pub shares-next : (i : ℕ) (ss : List Share) → i < pred t.height → AreSharesAt i ss → AreSharesAt (i + 1) (flat_map (share_below t.pages cs) ss)
  shares-next i ss l a =
      let here = level_at t held levels i l in
      let n : suc i ≡ i + 1 = omega arith in
      let handed = shares-below cs ps in_order t.pages here.level None ss here.known (by_names (names_at t.pages t.root i) (names here.level) ss here.named a) in
      subst (λ (j : ℕ). AreSharesAt j (flat_map (share_below t.pages cs) ss)) n (by_names (joined here.level) (names_at t.pages t.root (suc i)) (flat_map (share_below t.pages cs) ss) (sym here.below) handed)

  -- and they can be
  pub ready_at : (i : ℕ) (ss : List Share) → i < pred t.height → AreSharesAt i ss → AllByRecursion (IsReadyShare t.pages cs) ss
  ready_at i ss l a =
      let here = level_at t held levels i l in
      ready_level cs ps in_order t.pages here.level None ss here.known (by_names (names_at t.pages t.root i) (names here.level) ss here.named a)

  -- the last ones are the leaves'
  pub leaves_shares : (i : ℕ) (ss : List Share) → i ≡ pred t.height → AreSharesAt i ss → AreSharesFor cs ps (ranges (levels_of t).level) ss
  leaves_shares i ss n a =
      by_names (names_at t.pages t.root (pred t.height)) (names (levels_of t).level) ss (names-leaves t held levels) (subst (λ (j : ℕ). AreSharesAt j ss) n a)
