-- Lemmas on the shares that are distributed down the tree, for the proofs of this crate.
use Rattle.std.specs.Prelude.{◌≡◌, ℕ, zero, suc, ◌+◌, ◌-◌, ◌<◌, ◌≤◌, Bool, true, false, ◌&&◌, ◌||◌, cond, List, [], ◌∷◌, ◌++◌, map, length, take, drop, slice_get, Option, Some, None}
use Rattle.std.proofs.Common.{refl, sym, ap, ◌∙◌, subst, arith, append-nil, append_assoc, get_or, Less}
use Rattle.std.specs.List.{AllByRecursion, filter, list_any, slice_range}
use Rattle.std.specs.List.Sorted.{IsStrictlySortedBy, IsPartitionedBy}
use Rattle.std.proofs.lemmas.List.{take-append-drop, map-append, take-map, drop-map, drop-drop, drop_all, get_or-map, length-map}
use Rattle.std.proofs.lemmas.List.Elements.{filter-append, All-from_recursion}
use Rattle.keys.specs.Order.{order, IsRising}
use Rattle.keys.proofs.MapLemmas.{total}
use Rattle.keys.specs.CommandKey.{is_ranged}
use Rattle.keys.specs.Footprint.{Span, One, Range, span_of, is_range}
use Rattle.keys.specs.Places.{is_some_that, is_ranged_at}
use Rattle.keys.specs.declared.command.Command.{Command}
use Rattle.index_page.specs.Page.{PageOfKind, first_key, low_of}
use Rattle.index_page.specs.Range.{is_below, is_before, is_within}
use Rattle.index_page.specs.Children.{Place, children, is_place_for, child_entries, child_with_end, HasChildFor}
use Rattle.index_page.proofs.ListLemmas.{all-append, all_weaker, all_apart}
use Rattle.index_page.proofs.RangeLemmas.{below_is_less, less_is_below}
use Rattle.index_page.proofs.ChildLemmas.{next_key, children-cons, within, not_within_below, not_within_after}
use Rattle.routing.specs.BatchKeys.{key_at}
use Rattle.routing.specs.Routes.{Route, has_some, has_places}
use Rattle.routing.specs.SortedPlaces.{order_of_places, AreInKeyOrder, reaches_page, reaches, reaches_at}
use Rattle.routing.specs.Keyed.{Keyed, places_of, AreKeyed, has_key_below}
use Rattle.routing.specs.Shares.{Share, all_of, Lent, share_of_lent, lent_shares, AreKeyedShares, is_in_range, share_of, shares, shares_below, without_idle, ArePoints, is_met, CanHandDown, CanHandDownKeyed, CanHandDownShare}
use Rattle.routing.proofs.RouteLemmas.{within_all}
use Rattle.routing.proofs.IdleLemmas.{without_idle-nothing}
use Rattle.routing.proofs.SliceLemmas.{all_take, all_drop, earlier_below, sorted_drop, parted_by_key}

-- ---- filters

module _ {X : Type 0} (f : X → Bool) where
  pub filter_all : (xs : List X) → AllByRecursion (λ x. f x ≡ true) xs → filter f xs ≡ xs
  filter_all [] a = refl
  filter_all (x ∷ xs) a = rw a.0 (ap (λ (ys : List X). x ∷ ys) (filter_all xs a.1))

  pub filter_none : (xs : List X) → AllByRecursion (λ x. f x ≡ false) xs → filter f xs ≡ []
  filter_none [] a = refl
  filter_none (x ∷ xs) a = rw a.0 (filter_none xs a.1)

  passed_by : (b : Bool) (x : X) (rest : List X) → f x ≡ b → AllByRecursion (λ y. f y ≡ true) rest → AllByRecursion (λ y. f y ≡ true) (cond b (x ∷ rest) rest)
  passed_by true x rest e a = (e, a)
  passed_by false x rest e a = a

  pub all_passed : (xs : List X) → AllByRecursion (λ x. f x ≡ true) (filter f xs)
  all_passed [] = tt
  all_passed (x ∷ xs) = passed_by (f x) x (filter f xs) refl (all_passed xs)

-- what passes two tests, one after the other
module _ {X : Type 0} (f g h : X → Bool) (e : (x : X) → f x ≡ (g x && h x)) where
  twice_by : (b c d : Bool) (x : X) (xs ys : List X) → b ≡ (c && d) → h x ≡ d → xs ≡ filter h ys → cond b (x ∷ xs) xs ≡ filter h (cond c (x ∷ ys) ys)
  twice_by b true d x xs ys i j k = rw (i, j, k) refl
  twice_by b false d x xs ys i j k = rw (i, k) refl

  pub filter_twice : (xs : List X) → filter f xs ≡ filter h (filter g xs)
  filter_twice [] = refl
  filter_twice (x ∷ xs) = twice_by (f x) (g x) (h x) x (filter f xs) (filter g xs) (e x) refl (filter_twice xs)

-- ---- shares

pub same_share : (pid : ℕ) (xs ys qs rs : List ℕ) (ss ts : List Share) → xs ≡ ys → qs ≡ rs → ss ≡ ts
    → (let s : Share = record { pid = pid; own = xs; reaching = qs } in let t : Share = record { pid = pid; own = ys; reaching = rs } in cond (has_some xs || has_some qs) (s ∷ ss) ss ≡ cond (has_some ys || has_some rs) (t ∷ ts) ts)
same_share pid xs ys qs rs ss ts e f g = rw (e, f, g) refl

pub no_share : (pid : ℕ) (xs qs : List ℕ) (ss ts : List Share) → xs ≡ [] → qs ≡ [] → ss ≡ ts
    → (let s : Share = record { pid = pid; own = xs; reaching = qs } in cond (has_some xs || has_some qs) (s ∷ ss) ss ≡ ts)
no_share pid xs qs ss ts e f g = rw (e, f, g) refl

pub some_share : (pid : ℕ) (xs ys qs rs : List ℕ) (ss ts : List Share) → xs ≡ ys → qs ≡ rs → (has_some ys || has_some rs) ≡ true → ss ≡ ts
    → (let s : Share = record { pid = pid; own = xs; reaching = qs } in let t : Share = record { pid = pid; own = ys; reaching = rs } in cond (has_some xs || has_some qs) (s ∷ ss) ss ≡ t ∷ ts)
some_share pid xs ys qs rs ss ts e f h g = rw (e, f, h, g) refl

pub lent_is : (p q : ℕ) (xs ys rs ss : List ℕ) → p ≡ q → xs ≡ ys → rs ≡ ss
    → (let s : Share = record { pid = p; own = xs; reaching = rs } in let t : Share = record { pid = q; own = ys; reaching = ss } in s ≡ t)
lent_is p q xs ys rs ss e f g = rw (e, f, g) refl

-- ---- what begins in pages, without what reaches them

same_first : (pid : ℕ) (xs ys : List ℕ) (rs ss : List Route) → xs ≡ ys → rs ≡ ss
    → (let r : Route = record { pid = pid; places = xs } in let s : Route = record { pid = pid; places = ys } in cond (has_some xs) (r ∷ rs) rs ≡ cond (has_some ys) (s ∷ ss) ss)
same_first pid xs ys rs ss e f = rw (e, f) refl

no_first : (pid : ℕ) (xs : List ℕ) (rs ss : List Route) → xs ≡ [] → rs ≡ ss → (let r : Route = record { pid = pid; places = xs } in cond (has_some xs) (r ∷ rs) rs ≡ ss)
no_first pid xs rs ss e f = rw (e, f) refl

some_first : (pid : ℕ) (xs ys : List ℕ) (rs ss : List Route) → xs ≡ ys → has_some ys ≡ true → rs ≡ ss
    → (let r : Route = record { pid = pid; places = xs } in let s : Route = record { pid = pid; places = ys } in cond (has_some xs) (r ∷ rs) rs ≡ s ∷ ss)
some_first pid xs ys rs ss e h f = rw (e, h, f) refl

-- a share that no scan reaches
abbrev pub alone : Route → Share
alone r = record { pid = r.pid; own = r.places; reaching = [] }

-- those of the places whose commands begin in the page
abbrev begun_of : {A : Type 0} → List (Command A) → List ℕ → Place → Route
begun_of cs ps at = record { pid = at.pid; places = filter (is_in_range cs at.low at.end) ps }

abbrev begun : {A : Type 0} → List (Command A) → List ℕ → List Place → List Route
begun cs ps ats = filter has_places (map (begun_of cs ps) ats)

abbrev pub begun_below : {A : Type 0} → List (Command A) → PageOfKind → List ℕ → List Route
begun_below cs page ps = begun cs ps (children (child_entries page) None)

-- a test that finds none
none_found_by : {X : Type 0} (f : X → Bool) (b : Bool) (x : X) (xs : List X) → f x ≡ b → (b || list_any f xs) ≡ false → (list_any f xs ≡ false → AllByRecursion (λ y. f y ≡ false) xs) → AllByRecursion (λ y. f y ≡ false) (x ∷ xs)
none_found_by f true x xs e h g = absurd (cc)
none_found_by f false x xs e h g = (e, g h)

pub none_found : {X : Type 0} (f : X → Bool) (xs : List X) → list_any f xs ≡ false → AllByRecursion (λ y. f y ≡ false) xs
none_found f [] h = tt
none_found f (x ∷ xs) h = none_found_by f (f x) x xs refl h (none_found f xs)

never_reaches : (low : List ℕ) (s : Span) → is_range s ≡ false → reaches_page low s ≡ false
never_reaches low (One k) s = refl
never_reaches low (Range lo hi) s = absurd (cc)

point_at : {A : Type 0} (cs : List (Command A)) (n : ℕ) → AllByRecursion (λ c. is_ranged c ≡ false) cs → is_ranged_at cs n ≡ false
point_at [] n h = refl
point_at (c ∷ cs) zero h = h.0
point_at (c ∷ cs) (suc n) h = point_at cs n h.1

-- in a batch without scans no place has one
points_of_batch : {A : Type 0} (cs : List (Command A)) (es : List Keyed) → list_any is_ranged cs ≡ false → ArePoints cs (places_of es)
points_of_batch cs [] h = tt
points_of_batch cs (e ∷ es) h = (point_at cs e.1 (none_found is_ranged cs h), points_of_batch cs es h)

-- if no scan meets a page, none of its places has one
places_by : {A : Type 0} (cs : List (Command A)) (es : List Keyed) → AllByRecursion (λ e. is_ranged_at cs e.1 ≡ false) es → ArePoints cs (places_of es)
places_by cs [] a = tt
places_by cs (e ∷ es) a = (a.0, places_by cs es a.1)

not_met_by : {A : Type 0} (cs : List (Command A)) (rs : List ℕ) (es : List Keyed) → (has_some rs || list_any (λ e. is_ranged_at cs e.1) es) ≡ false → ArePoints cs (places_of es)
not_met_by cs [] es h = places_by cs es (none_found (λ (e : Keyed). is_ranged_at cs e.1) es h)
not_met_by cs (r ∷ rs) es h = absurd (cc)

not_met : {A : Type 0} (cs : List (Command A)) (l : Lent) → is_met cs l ≡ false → ArePoints cs (places_of l.keyed)
not_met cs l h = not_met_by cs l.reaching l.keyed h

none_reaching_by : {A : Type 0} (cs : List (Command A)) (rs : List ℕ) (es : List Keyed) → (has_some rs || list_any (λ e. is_ranged_at cs e.1) es) ≡ false → rs ≡ []
none_reaching_by cs [] es h = refl
none_reaching_by cs (r ∷ rs) es h = absurd (cc)

-- ---- shares in the form of the code

-- what holds of all shares holds of the one at a place
pub share_at : (P : Share → Type 0) (shares : List Lent) (i : ℕ) (d : Lent) → i < length shares → AllByRecursion P (lent_shares shares) → P (share_of_lent (get_or shares i d))
share_at P [] i d l a = absurd (omega arith)
share_at P (s ∷ ss) zero d l a = a.0
share_at P (s ∷ ss) (suc i) d l a = let m : i < length ss = omega arith in share_at P ss i d m a.1

-- the same of the one that was taken from there
pub share_taken : (P : Share → Type 0) (shares : List Lent) (i : ℕ) (d l : Lent) → i < length shares → l ≡ get_or shares i d → AllByRecursion P (lent_shares shares) → P (share_of_lent l)
share_taken P shares i d l w t a = subst (λ (x : Lent). P (share_of_lent x)) (sym t) (share_at P shares i d w a)

-- one more share, if the rest is what there was
pub push_share : (old new : List Lent) (share : Lent) (r : Share) (more less : List Share) → new ≡ old ++ share ∷ [] → share_of_lent share ≡ r → more ≡ r ∷ less → lent_shares new ++ less ≡ lent_shares old ++ more
push_share old new share r more less i k j =
    ap (λ (n : List Lent). lent_shares n ++ less) i
    ∙ ap (λ (x : List Share). x ++ less) (map-append share_of_lent old (share ∷ []))
    ∙ append_assoc (lent_shares old) (share_of_lent share ∷ []) less
    ∙ ap (λ (s : Share). lent_shares old ++ s ∷ less) k
    ∙ ap (λ (m : List Share). lent_shares old ++ m) (sym j)

module _ {A : Type 0} (cs : List (Command A)) where
  pub shares-append : (ps : List ℕ) (xs ys : List Place) → shares cs ps (xs ++ ys) ≡ shares cs ps xs ++ shares cs ps ys
  shares-append ps [] ys = refl
  shares-append ps (x ∷ xs) ys =
      let s : Share = share_of cs ps x in
      joined_by (has_some s.own || has_some s.reaching) s (shares cs ps (xs ++ ys)) (shares cs ps xs) (shares cs ps ys) (shares-append ps xs ys)
    where
      joined_by : (b : Bool) (r : Share) (rs ss ts : List Share) → rs ≡ ss ++ ts → cond b (r ∷ rs) rs ≡ cond b (r ∷ ss) ss ++ ts
      joined_by true r rs ss ts e = ap (λ (us : List Share). r ∷ us) e
      joined_by false r rs ss ts e = e

  pub no_shares : (ats : List Place) → shares cs [] ats ≡ []
  no_shares [] = refl
  no_shares (at ∷ ats) = no_shares ats

  none_begun : (ats : List Place) → begun cs [] ats ≡ []
  none_begun [] = refl
  none_begun (at ∷ ats) = none_begun ats

  -- all places begin in the range of all keys
  pub all_begin : (ps : List ℕ) → filter (is_in_range cs [] None) ps ≡ ps
  all_begin ps = filter_all (is_in_range cs [] None) ps (all_within ps)
    where
      all_within : (qs : List ℕ) → AllByRecursion (λ q. is_in_range cs [] None q ≡ true) qs
      all_within [] = tt
      all_within (q ∷ qs) = (within_all (key_at cs q), all_within qs)

  -- ---- a batch without scans

  point_never : (low : List ℕ) (c : Command A) → is_ranged c ≡ false → reaches low c ≡ false
  point_never low c s = never_reaches low (span_of c) s

  never_by : (low : List ℕ) (o : Option (Command A)) → is_some_that is_ranged o ≡ false → is_some_that (reaches low) o ≡ false
  never_by low None h = refl
  never_by low (Some c) h = point_never low c h

  never_reaching : (low : List ℕ) (ps : List ℕ) → ArePoints cs ps → AllByRecursion (λ p. reaches_at cs low p ≡ false) ps
  never_reaching low ps a = all_weaker (λ p. is_ranged_at cs p ≡ false) (λ p. reaches_at cs low p ≡ false) (λ p h. never_by low (slice_get cs p) h) ps a

  -- if all of some places reach a page, and none is a scan's, there are none
  none_reached : (low : List ℕ) (ps : List ℕ) → ArePoints cs ps → AllByRecursion (λ p. reaches_at cs low p ≡ true) ps → ps ≡ []
  none_reached low [] h a = refl
  none_reached low (p ∷ ps) h a = absurd (let n = never_by low (slice_get cs p) h.0 in let t = a.0 in cc)

  -- shares are then what begins in the pages
  shares-begun : (ps : List ℕ) (ats : List Place) → ArePoints cs ps → shares cs ps ats ≡ map alone (begun cs ps ats)
  shares-begun ps [] h = refl
  shares-begun ps (at ∷ ats) h =
      let own = filter (is_in_range cs at.low at.end) ps in
      let reaching = filter (reaches_at cs at.low) ps in
      alone_by at.pid own (without_idle cs at.end own reaching) (shares cs ps ats) (begun cs ps ats)
      (without_idle-nothing cs at.end own reaching (filter_none (reaches_at cs at.low) ps (never_reaching at.low ps h))) (shares-begun ps ats h)
    where
      alone_by : (pid : ℕ) (xs rs : List ℕ) (ss : List Share) (ts : List Route) → rs ≡ [] → ss ≡ map alone ts
          → (let s : Share = record { pid = pid; own = xs; reaching = rs } in let r : Route = record { pid = pid; places = xs } in cond (has_some xs || has_some rs) (s ∷ ss) ss ≡ map alone (cond (has_some xs) (r ∷ ts) ts))
      alone_by pid [] rs ss ts e f = rw e f
      alone_by pid (x ∷ xs) rs ss ts e f = rw (e, f) refl

  points_left : (n : ℕ) (es : List Keyed) → ArePoints cs (places_of es) → ArePoints cs (places_of (drop n es))
  points_left zero es h = h
  points_left (suc n) [] h = tt
  points_left (suc n) (e ∷ es) h = points_left n es h.1

  pub rest_points : (es rest : List Keyed) (n : ℕ) → rest ≡ drop n es → ArePoints cs (places_of es) → ArePoints cs (places_of rest)
  rest_points es rest n t h = subst (λ (x : List Keyed). ArePoints cs (places_of x)) (sym t) (points_left n es h)

  pub from_begun : (page : PageOfKind) (es : List Keyed) (n : ℕ) (r : Route) → ArePoints cs (places_of es) → begun_below cs page (places_of es) ≡ r ∷ begun_below cs page (places_of (drop n es)) → shares_below cs page (places_of es) ≡ alone r ∷ shares_below cs page (places_of (drop n es))
  from_begun page es n r h e =
      let ats = children (child_entries page) None in
      shares-begun (places_of es) ats h ∙ ap (λ (rs : List Route). map alone rs) e ∙ ap (λ (ss : List Share). alone r ∷ ss) (sym (shares-begun (places_of (drop n es)) ats (points_left n es h)))

  -- ---- the first child of a page that gets any places

  from_by : (b : Bool) (p q : ℕ) (low : List ℕ) → is_below (key_at cs q) low ≡ b → order_of_places cs p q ≡ Less → is_below (key_at cs p) low ≡ false → is_below (key_at cs q) low ≡ false
  from_by true p q low e l h = absurd (let b = earlier_below cs p q low l e in cc)
  from_by false p q low e l h = e

  from_later : (p : ℕ) (qs : List ℕ) (low : List ℕ) → AllByRecursion (λ q. order_of_places cs p q ≡ Less) qs → is_below (key_at cs p) low ≡ false → AllByRecursion (λ q. is_below (key_at cs q) low ≡ false) qs
  from_later p [] low a h = tt
  from_later p (q ∷ qs) low a h = (from_by (is_below (key_at cs q) low) p q low refl a.0 h, from_later p qs low a.1 h)

  -- places in key order are all from a key on where the first is
  pub from_first : (p : ℕ) (qs : List ℕ) (low : List ℕ) → AreInKeyOrder cs (p ∷ qs) → is_below (key_at cs p) low ≡ false → AllByRecursion (λ q. is_below (key_at cs q) low ≡ false) (p ∷ qs)
  unfolding IsStrictlySortedBy
  from_first p qs low s h = (h, from_later p qs low s.0 h)

  -- places from a low key on and before an end are in the range
  all_in : (low : List ℕ) (end : Option (List ℕ)) (qs : List ℕ) → AllByRecursion (λ q. is_below (key_at cs q) low ≡ false) qs → AllByRecursion (λ q. is_before end (key_at cs q) ≡ true) qs → AllByRecursion (λ q. is_in_range cs low end q ≡ true) qs
  all_in low end [] a b = tt
  all_in low end (q ∷ qs) a b = (within low end (key_at cs q) a.0 b.0, all_in low end qs a.1 b.1)

  all_after_end : (low : List ℕ) (end : Option (List ℕ)) (qs : List ℕ) → AllByRecursion (λ q. is_before end (key_at cs q) ≡ false) qs → AllByRecursion (λ q. is_in_range cs low end q ≡ false) qs
  all_after_end low end [] a = tt
  all_after_end low end (q ∷ qs) a = (not_within_after low end (key_at cs q) a.0, all_after_end low end qs a.1)

  all_below_low : (low : List ℕ) (end : Option (List ℕ)) (qs : List ℕ) → AllByRecursion (λ q. is_below (key_at cs q) low ≡ true) qs → AllByRecursion (λ q. is_in_range cs low end q ≡ false) qs
  all_below_low low end [] a = tt
  all_below_low low end (q ∷ qs) a = (not_within_below low end (key_at cs q) a.0, all_below_low low end qs a.1)

  abbrev AreBelowKeys : List (List ℕ × ℕ) → List ℕ → Type 0
  AreBelowKeys es qs = AllByRecursion (λ q. is_before (next_key es None) (key_at cs q) ≡ true) qs

  next_below : (e f : List ℕ × ℕ) (qs : List ℕ) → order e.0 f.0 ≡ Less → AllByRecursion (λ q. is_below (key_at cs q) e.0 ≡ true) qs → AllByRecursion (λ q. is_below (key_at cs q) f.0 ≡ true) qs
  next_below e f qs l a = all_weaker (λ q. is_below (key_at cs q) e.0 ≡ true) (λ q. is_below (key_at cs q) f.0 ≡ true) (λ q h. less_is_below (key_at cs q) f.0 (total.trans (key_at cs q) e.0 f.0 (below_is_less (key_at cs q) e.0 h) l)) qs a

  -- places below the first of some children aren't of any of these
  after_by : (e : List ℕ × ℕ) (es : List (List ℕ × ℕ)) (xs ys : List ℕ) → IsRising (e ∷ es) → AllByRecursion (λ q. is_below (key_at cs q) e.0 ≡ true) xs
      → begun cs (xs ++ ys) (children (e ∷ es) None) ≡ begun cs ys (children (e ∷ es) None)
  unfolding IsStrictlySortedBy
  after_by e [] xs ys r a =
      same_first e.1 (filter (is_in_range cs e.0 None) (xs ++ ys)) (filter (is_in_range cs e.0 None) ys) [] []
      (filter-append (is_in_range cs e.0 None) xs ys ∙ ap (λ (zs : List ℕ). zs ++ filter (is_in_range cs e.0 None) ys) (filter_none (is_in_range cs e.0 None) xs (all_below_low e.0 None xs a))) refl
  after_by e (f ∷ es) xs ys r a =
      let end : Option (List ℕ) = Some f.0 in
      same_first e.1 (filter (is_in_range cs e.0 end) (xs ++ ys)) (filter (is_in_range cs e.0 end) ys) (begun cs (xs ++ ys) (children (f ∷ es) None)) (begun cs ys (children (f ∷ es) None))
      (filter-append (is_in_range cs e.0 end) xs ys ∙ ap (λ (zs : List ℕ). zs ++ filter (is_in_range cs e.0 end) ys) (filter_none (is_in_range cs e.0 end) xs (all_below_low e.0 end xs a)))
      (after_by f es xs ys r.1 (next_below e f xs r.0.0 a))

  shares_after : (es : List (List ℕ × ℕ)) (xs ys : List ℕ) → IsRising es → AreBelowKeys es xs → begun cs (xs ++ ys) (children es None) ≡ begun cs ys (children es None)
  shares_after [] xs ys r a = refl
  shares_after (e ∷ es) xs ys r a = after_by e es xs ys r a

  -- a list split at an end: the places in the first part are before the end, and those in the second part are not
  pub record IsCutAt (end : Option (List ℕ)) (xs ys : List ℕ) : Type 0 where
    pub before : AllByRecursion (λ q. is_before end (key_at cs q) ≡ true) xs
    pub following : AllByRecursion (λ q. is_before end (key_at cs q) ≡ false) ys

  -- the first child has the places before its end, and the others get those after
  here : (e : List ℕ × ℕ) (es : List (List ℕ × ℕ)) (xs ys : List ℕ) → IsRising (e ∷ es) → AllByRecursion (λ q. is_below (key_at cs q) e.0 ≡ false) (xs ++ ys) → has_some xs ≡ true → IsCutAt (next_key es None) xs ys
      → (let r : Route = record { pid = e.1; places = xs } in begun cs (xs ++ ys) (children (e ∷ es) None) ≡ r ∷ begun cs ys (children (e ∷ es) None))
  unfolding IsStrictlySortedBy
  here e es xs ys r a s c =
      let end : Option (List ℕ) = next_key es None in
      let low = all_apart (λ q. is_below (key_at cs q) e.0 ≡ false) xs ys a in
      let none : filter (is_in_range cs e.0 end) ys ≡ [] = filter_none (is_in_range cs e.0 end) ys (all_after_end e.0 end ys c.following) in
      let own : filter (is_in_range cs e.0 end) (xs ++ ys) ≡ xs =
      filter-append (is_in_range cs e.0 end) xs ys
      ∙ ap (λ (zs : List ℕ). zs ++ filter (is_in_range cs e.0 end) ys) (filter_all (is_in_range cs e.0 end) xs (all_in e.0 end xs low.0 c.before))
      ∙ ap (λ (zs : List ℕ). xs ++ zs) none ∙ append-nil xs in
      let rest : begun cs (xs ++ ys) (children es None) ≡ begun cs ys (children (e ∷ es) None) =
      shares_after es xs ys r.1 c.before
      ∙ sym (ap (λ (ats : List Place). begun cs ys ats) (children-cons e es None) ∙ no_first e.1 (filter (is_in_range cs e.0 end) ys) (begun cs ys (children es None)) (begun cs ys (children es None)) none refl) in
      ap (λ (ats : List Place). begun cs (xs ++ ys) ats) (children-cons e es None)
      ∙ some_first e.1 (filter (is_in_range cs e.0 end) (xs ++ ys)) xs (begun cs (xs ++ ys) (children es None)) (begun cs ys (children (e ∷ es) None)) own s rest

  -- a child that lies before all of these places gets none
  skipped : (e f : List ℕ × ℕ) (es : List (List ℕ × ℕ)) (qs : List ℕ) → AllByRecursion (λ q. is_below (key_at cs q) f.0 ≡ false) qs → begun cs qs (children (e ∷ f ∷ es) None) ≡ begun cs qs (children (f ∷ es) None)
  skipped e f es qs a =
      no_first e.1 (filter (is_in_range cs e.0 (Some f.0)) qs) (begun cs qs (children (f ∷ es) None)) (begun cs qs (children (f ∷ es) None)) (filter_none (is_in_range cs e.0 (Some f.0)) qs (all_after_end e.0 (Some f.0) qs a)) refl

  abbrev IsFirst : List (List ℕ × ℕ) → ℕ × Option (List ℕ) → List ℕ → List ℕ → Type 0
  IsFirst es child xs ys = (let r : Route = record { pid = child.0; places = xs } in begun cs (xs ++ ys) (children es None) ≡ r ∷ begun cs ys (children es None))

  first_by : (b : Bool) (k : List ℕ) (e f : List ℕ × ℕ) (es : List (List ℕ × ℕ)) (xs ys : List ℕ) → is_below k f.0 ≡ b → IsRising (e ∷ f ∷ es)
      → AllByRecursion (λ q. is_below (key_at cs q) e.0 ≡ false) (xs ++ ys) → (is_below k f.0 ≡ false → AllByRecursion (λ q. is_below (key_at cs q) f.0 ≡ false) (xs ++ ys)) → has_some xs ≡ true
      → (let child : ℕ × Option (List ℕ) = cond b (e.1, Some f.0) (child_with_end k (f ∷ es)) in IsCutAt child.1 xs ys
      → (is_below k f.0 ≡ false → IsCutAt (child_with_end k (f ∷ es)).1 xs ys → IsFirst (f ∷ es) (child_with_end k (f ∷ es)) xs ys) → IsFirst (e ∷ f ∷ es) child xs ys)
  first_by true k e f es xs ys b r a g s c ih = here e (f ∷ es) xs ys r a s c
  first_by false k e f es xs ys b r a g s c ih =
      let from = g b in
      let child : ℕ × Option (List ℕ) = child_with_end k (f ∷ es) in
      let first : Route = record { pid = child.0; places = xs } in
      skipped e f es (xs ++ ys) from ∙ ih b c ∙ ap (λ (rs : List Route). first ∷ rs) (sym (skipped e f es ys (all_apart (λ q. is_below (key_at cs q) f.0 ≡ false) xs ys from).1))

  -- the child that a key goes to gets the places before its end, if the key is that of the first place
  first_from : (e : List ℕ × ℕ) (es : List (List ℕ × ℕ)) (p : ℕ) (qs xs ys : List ℕ) → p ∷ qs ≡ xs ++ ys → IsRising (e ∷ es) → is_below (key_at cs p) e.0 ≡ false → AreInKeyOrder cs (p ∷ qs) → has_some xs ≡ true
      → IsCutAt (child_with_end (key_at cs p) (e ∷ es)).1 xs ys → IsFirst (e ∷ es) (child_with_end (key_at cs p) (e ∷ es)) xs ys
  unfolding IsStrictlySortedBy
  first_from e [] p qs xs ys j r h o s c =
      here e [] xs ys r (subst (λ (zs : List ℕ). AllByRecursion (λ q. is_below (key_at cs q) e.0 ≡ false) zs) j (from_first p qs e.0 o h)) s c
  first_from e (f ∷ es) p qs xs ys j r h o s c =
      first_by (is_below (key_at cs p) f.0) (key_at cs p) e f es xs ys refl r
      (subst (λ (zs : List ℕ). AllByRecursion (λ q. is_below (key_at cs q) e.0 ≡ false) zs) j (from_first p qs e.0 o h))
      (λ g. subst (λ (zs : List ℕ). AllByRecursion (λ q. is_below (key_at cs q) f.0 ≡ false) zs) j (from_first p qs f.0 o g)) s c
      (λ g d. first_from f es p qs xs ys j r.1 g o s d)

  -- the key is before the end of its child
  before_by : (b : Bool) (k : List ℕ) (e f : List ℕ × ℕ) (es : List (List ℕ × ℕ)) → is_below k f.0 ≡ b → is_before (child_with_end k (f ∷ es)).1 k ≡ true → (let child : ℕ × Option (List ℕ) = cond b (e.1, Some f.0) (child_with_end k (f ∷ es)) in is_before child.1 k ≡ true)
  before_by true k e f es b ih = b
  before_by false k e f es b ih = ih

  pub before_end : (k : List ℕ) (es : List (List ℕ × ℕ)) → is_before (child_with_end k es).1 k ≡ true
  before_end k [] = refl
  before_end k (e ∷ []) = refl
  before_end k (e ∷ f ∷ es) = before_by (is_below k f.0) k e f es refl (before_end k (f ∷ es))

  -- so its place is in the first part
  pub some_before : (es : List (List ℕ × ℕ)) (p : ℕ) (qs : List ℕ) (n : ℕ) → IsCutAt (child_with_end (key_at cs p) es).1 (take n (p ∷ qs)) (drop n (p ∷ qs)) → (0 < n) × (has_some (take n (p ∷ qs)) ≡ true)
  some_before es p qs zero c = absurd (let b = before_end (key_at cs p) es in let d = c.following.0 in cc)
  some_before es p qs (suc n) c = (omega arith, refl)

  pub first_share : (page : PageOfKind) (p : ℕ) (qs : List ℕ) (n : ℕ) → CanHandDown cs page (p ∷ qs) → IsCutAt (child_with_end (key_at cs p) (child_entries page)).1 (take n (p ∷ qs)) (drop n (p ∷ qs))
      → (let r : Route = record { pid = (child_with_end (key_at cs p) (child_entries page)).0; places = take n (p ∷ qs) } in begun_below cs page (p ∷ qs) ≡ r ∷ begun_below cs page (drop n (p ∷ qs)))
  first_share page p qs n h c =
      ap (λ (zs : List ℕ). begun_below cs page zs) (sym (take-append-drop n (p ∷ qs)))
      ∙ from_some (child_entries page) h.rising h.each.0 c
    where
      from_some : (es : List (List ℕ × ℕ)) → IsRising es → (0 < length es) × (is_below (key_at cs p) (first_key es) ≡ false) → IsCutAt (child_with_end (key_at cs p) es).1 (take n (p ∷ qs)) (drop n (p ∷ qs)) → IsFirst es (child_with_end (key_at cs p) es) (take n (p ∷ qs)) (drop n (p ∷ qs))
      from_some [] r b d = absurd (let l = b.0 in omega arith)
      from_some (e ∷ es) r b d = first_from e es p qs (take n (p ∷ qs)) (drop n (p ∷ qs)) (sym (take-append-drop n (p ∷ qs))) r b.1 h.in_order (some_before (e ∷ es) p qs n d).1 d

  pub still_handed : (page : PageOfKind) (ps : List ℕ) (n : ℕ) → CanHandDown cs page ps → CanHandDown cs page (drop n ps)
  still_handed page ps n h = record {
    in_order = sorted_drop (order_of_places cs) n ps h.in_order;
    rising = h.rising;
    each = all_drop (λ q. HasChildFor page (key_at cs q)) n ps h.each;
  }

  -- ---- the first child, by entries

  -- what holds of the entries' keys holds of their places' keys
  pub all_places_of : (P : List ℕ → Type 0) (es : List Keyed) → AreKeyed cs es → AllByRecursion (λ entry. P entry.0) es → AllByRecursion (λ place. P (key_at cs place)) (places_of es)
  all_places_of P [] k a = tt
  all_places_of P (e ∷ es) k a = (subst P k.0 a.0, all_places_of P es k.1 a.1)

  pub keyed_take : (n : ℕ) (es : List Keyed) → AreKeyed cs es → AreKeyed cs (take n es)
  keyed_take n es k = all_take (λ (entry : Keyed). entry.0 ≡ key_at cs entry.1) n es k

  pub keyed_drop : (n : ℕ) (es : List Keyed) → AreKeyed cs es → AreKeyed cs (drop n es)
  keyed_drop n es k = all_drop (λ (entry : Keyed). entry.0 ≡ key_at cs entry.1) n es k

  -- where entries are cut at an end
  pub record AreCutAt (end : Option (List ℕ)) (xs ys : List Keyed) : Type 0 where
    pub before : AllByRecursion (λ entry. is_before end entry.0 ≡ true) xs
    pub following : AllByRecursion (λ entry. is_before end entry.0 ≡ false) ys

  -- they are cut at no end after all of them
  pub none_cut : (es : List Keyed) → AreCutAt None (take (length es) es) (drop (length es) es)
  none_cut es = record { before = all_true (take (length es) es); following = rw (drop_all (length es) es (omega arith)) tt }
    where
      all_true : (xs : List Keyed) → AllByRecursion (λ entry. is_before None entry.0 ≡ true) xs
      all_true [] = tt
      all_true (x ∷ xs) = (refl, all_true xs)

  -- the first key has a child
  pub child_for_first : (page : PageOfKind) (es : List Keyed) (d : Keyed) → 0 < length es → CanHandDownKeyed cs page es → HasChildFor page (get_or es 0 d).0
  child_for_first page [] d l h = absurd (omega arith)
  child_for_first page (e ∷ es) d l h = subst (λ (k : List ℕ). HasChildFor page k) (sym h.keys.0) h.places.each.0

  -- entries with keys below another key come first
  pub parted_keyed : (page : PageOfKind) (es : List Keyed) (k : List ℕ) → CanHandDownKeyed cs page es → IsPartitionedBy (has_key_below k) es
  parted_keyed page es k h = λ i j d l w t.
      let all = All-from_recursion (λ (entry : Keyed). entry.0 ≡ key_at cs entry.1) es h.keys in
      let v : i < length es = omega arith in
      let place = λ (entry : Keyed). entry.1 in
      let m : j < length (places_of es) = rw (length-map es place) w in
      let at : is_below (key_at cs (get_or (places_of es) j d.1)) k ≡ true = rw (get_or-map place es j d d.1 w, sym (all j d w)) t in
      rw (all i d v, sym (get_or-map place es i d d.1 v)) (parted_by_key cs k (places_of es) h.places.in_order i j d.1 l m at)

  -- what the first child gets, by its pid and the end of its range
  pub first_share_at : (page : PageOfKind) (es : List Keyed) (n : ℕ) (pid : ℕ) (end : Option (List ℕ)) (d : Keyed) → 0 < length es → CanHandDownKeyed cs page es → (pid, end) ≡ child_with_end (get_or es 0 d).0 (child_entries page)
      → AreCutAt end (take n es) (drop n es) → (let r : Route = record { pid = pid; places = places_of (take n es) } in (0 < n) × (begun_below cs page (places_of es) ≡ r ∷ begun_below cs page (places_of (drop n es))))
  first_share_at page [] n pid end d l h i c = absurd (omega arith)
  first_share_at page (e ∷ es) n pid end d l h i c =
      let place = λ (entry : Keyed). entry.1 in
      let k = key_at cs e.1 in
      let found : (pid, end) ≡ child_with_end k (child_entries page) = i ∙ ap (λ (x : List ℕ). child_with_end x (child_entries page)) h.keys.0 in
      let pid_is : pid ≡ (child_with_end k (child_entries page)).0 = ap (λ (r : ℕ × Option (List ℕ)). r.0) found in
      let end_is : end ≡ (child_with_end k (child_entries page)).1 = ap (λ (r : ℕ × Option (List ℕ)). r.1) found in
      let before : AllByRecursion (λ q. is_before end (key_at cs q) ≡ true) (places_of (take n (e ∷ es))) = all_places_of (λ x. is_before end x ≡ true) (take n (e ∷ es)) (keyed_take n (e ∷ es) h.keys) c.before in
      let following : AllByRecursion (λ q. is_before end (key_at cs q) ≡ false) (places_of (drop n (e ∷ es))) = all_places_of (λ x. is_before end x ≡ false) (drop n (e ∷ es)) (keyed_drop n (e ∷ es) h.keys) c.following in
      let cut : IsCutAt end (take n (places_of (e ∷ es))) (drop n (places_of (e ∷ es))) = record {
        before = subst (λ (xs : List ℕ). AllByRecursion (λ q. is_before end (key_at cs q) ≡ true) xs) (sym (take-map place n (e ∷ es))) before;
        following = subst (λ (xs : List ℕ). AllByRecursion (λ q. is_before end (key_at cs q) ≡ false) xs) (sym (drop-map place n (e ∷ es))) following;
      } in
      let own = subst (λ (x : Option (List ℕ)). IsCutAt x (take n (places_of (e ∷ es))) (drop n (places_of (e ∷ es)))) end_is cut in
      let route : ℕ → List ℕ → Route = λ p ps. record { pid = p; places = ps } in
      let rest : List ℕ → List Route = λ ps. begun_below cs page ps in (
        (some_before (child_entries page) e.1 (places_of es) n own).0,
        first_share page e.1 (places_of es) n h.places own
            ∙ ap (λ (p : ℕ). route p (take n (places_of (e ∷ es))) ∷ rest (drop n (places_of (e ∷ es)))) (sym pid_is)
            ∙ ap (λ (ps : List ℕ). route pid ps ∷ rest (drop n (places_of (e ∷ es)))) (take-map place n (e ∷ es))
            ∙ ap (λ (ps : List ℕ). route pid (places_of (take n (e ∷ es))) ∷ rest ps) (drop-map place n (e ∷ es)),
      )

  -- ---- a place alone

  abbrev route_alone : ℕ → ℕ → Route
  route_alone p pid = record { pid = pid; places = p ∷ [] }

  alone_by : (b : Bool) (p : ℕ) (at : Place) (ats passed : List Place) (rest : List Route) → rest ≡ map (route_alone p) (map (λ x. x.pid) passed)
      → (let own : List ℕ = cond b (p ∷ []) [] in let r : Route = record { pid = at.pid; places = own } in cond (has_some own) (r ∷ rest) rest ≡ map (route_alone p) (map (λ x. x.pid) (cond b (at ∷ passed) passed)))
  alone_by true p at ats passed rest e = ap (λ (rs : List Route). route_alone p at.pid ∷ rs) e
  alone_by false p at ats passed rest e = e

  -- a place alone goes to those children in whose range its key lies
  shares_alone : (p : ℕ) (ats : List Place) → begun cs (p ∷ []) ats ≡ map (route_alone p) (map (λ at. at.pid) (filter (is_place_for (key_at cs p)) ats))
  shares_alone p [] = refl
  shares_alone p (at ∷ ats) = alone_by (is_within at.low at.end (key_at cs p)) p at ats (filter (is_place_for (key_at cs p)) ats) (begun cs (p ∷ []) ats) (shares_alone p ats)

  -- and of these there is one
  pub lone_share_at : (page : PageOfKind) (es : List Keyed) (pid : ℕ) (d : Keyed) → length es ≡ 1 → CanHandDownKeyed cs page es → map (λ at. at.pid) (filter (is_place_for (get_or es 0 d).0) (children (child_entries page) None)) ≡ pid ∷ []
      → (let r : Route = record { pid = pid; places = places_of (take 1 es) } in begun_below cs page (places_of es) ≡ r ∷ begun_below cs page (places_of (drop 1 es)))
  lone_share_at page [] pid d l h e = absurd (omega arith)
  lone_share_at page (x ∷ []) pid d l h e =
      let ats = children (child_entries page) None in
      shares_alone x.1 ats
      ∙ ap (λ (k : List ℕ). map (route_alone x.1) (map (λ at. at.pid) (filter (is_place_for k) ats))) (sym h.keys.0)
      ∙ ap (λ (pids : List ℕ). map (route_alone x.1) pids) e
      ∙ ap (λ (rs : List Route). route_alone x.1 pid ∷ rs) (sym (none_begun ats))
  lone_share_at page (x ∷ y ∷ es) pid d l h e = absurd (omega arith)

  -- ---- the children after the first

  pub still_keyed : (page : PageOfKind) (es : List Keyed) (n : ℕ) → CanHandDownKeyed cs page es → CanHandDownKeyed cs page (drop n es)
  still_keyed page es n h = record {
    places = subst (λ (ps : List ℕ). CanHandDown cs page ps) (drop-map (λ (entry : Keyed). entry.1) n es) (still_handed page (places_of es) n h.places);
    keys = keyed_drop n es h.keys;
  }

  pub rest_keyed : (page : PageOfKind) (es rest : List Keyed) (n : ℕ) → rest ≡ drop n es → CanHandDownKeyed cs page es → CanHandDownKeyed cs page rest
  rest_keyed page es rest n t h = subst (λ (x : List Keyed). CanHandDownKeyed cs page x) (sym t) (still_keyed page es n h)

  pub part_is : (es : List Keyed) (start count end : ℕ) → end ≡ start + count → slice_range es start end ≡ take count (drop start es)
  part_is es start count end e = let n : end - start ≡ count = omega arith in ap (λ (i : ℕ). take i (drop start es)) n

  -- one more share, if the rest is what there was
  pub hand_step : (page : PageOfKind) (es rest : List Keyed) (start count end : ℕ) (pid : ℕ) (old new : List Lent) (lent : Lent) (whole : List Share) → rest ≡ drop start es → end ≡ start + count → lent.pid ≡ pid → lent.keyed ≡ slice_range es start end → lent.reaching ≡ [] → new ≡ old ++ lent ∷ []
      → (let s : Share = record { pid = pid; own = places_of (take count rest); reaching = [] } in shares_below cs page (places_of rest) ≡ s ∷ shares_below cs page (places_of (drop count rest)))
      → lent_shares old ++ shares_below cs page (places_of (drop start es)) ≡ whole → lent_shares new ++ shares_below cs page (places_of (drop end es)) ≡ whole
  hand_step page es rest start count end pid old new lent whole t e p o n i f h =
      let own : List ℕ = places_of (take count rest) in
      let part : lent.keyed ≡ take count rest = o ∙ part_is es start count end e ∙ ap (λ (x : List Keyed). take count x) (sym t) in
      let left : drop count rest ≡ drop end es = ap (λ (x : List Keyed). drop count x) t ∙ drop-drop count start es ∙ ap (λ (j : ℕ). drop j es) (sym e) in
      let s : Share = record { pid = pid; own = own; reaching = [] } in
      ap (λ (x : List Keyed). lent_shares new ++ shares_below cs page (places_of x)) (sym left)
      ∙ push_share old new lent s (shares_below cs page (places_of rest)) (shares_below cs page (places_of (drop count rest))) i (lent_is lent.pid pid (places_of lent.keyed) own lent.reaching [] p (ap (λ (x : List Keyed). places_of x) part) n) f
      ∙ ap (λ (x : List Keyed). lent_shares old ++ shares_below cs page (places_of x)) t
      ∙ h

  pub keys_step : (es : List Keyed) (start end : ℕ) (old new : List Lent) (lent : Lent) → lent.keyed ≡ slice_range es start end → new ≡ old ++ lent ∷ [] → AreKeyed cs es → AreKeyedShares cs old → AreKeyedShares cs new
  keys_step es start end old new lent o i k a =
      let own : AreKeyed cs lent.keyed = subst (λ (x : List Keyed). AreKeyed cs x) (sym o) (keyed_take (end - start) (drop start es) (keyed_drop start es k)) in
      subst (λ (x : List Lent). AreKeyedShares cs x) (sym i) (all-append (λ (s : Lent). AreKeyed cs s.keyed) old (lent ∷ []) a (own, tt))

  pub all_handed : (page : PageOfKind) (es : List Keyed) (start : ℕ) (old : List Lent) (whole : List Share) → length es ≤ start → lent_shares old ++ shares_below cs page (places_of (drop start es)) ≡ whole → lent_shares old ≡ whole
  all_handed page es start old whole l h =
      sym (append-nil (lent_shares old))
      ∙ ap (λ (rs : List Share). lent_shares old ++ rs) (sym (no_shares (children (child_entries page) None)))
      ∙ ap (λ (x : List Keyed). lent_shares old ++ shares_below cs page (places_of x)) (sym (drop_all start es l))
      ∙ h

  -- ---- a share that can be distributed

  pub can_keyed : (page : PageOfKind) (l : Lent) (ks : List Keyed) → ks ≡ l.keyed → CanHandDownShare cs page (share_of_lent l) → AreKeyed cs l.keyed → CanHandDownKeyed cs page ks
  can_keyed page l ks e h k = subst (λ (x : List Keyed). CanHandDownKeyed cs page x) (sym e) (record { places = h.own; keys = k })

  pub keys_pushed : (old new : List Lent) (lent : Lent) (ks : List Keyed) → lent.keyed ≡ ks → new ≡ old ++ lent ∷ [] → AreKeyed cs ks → AreKeyedShares cs old → AreKeyedShares cs new
  keys_pushed old new lent ks o i k a =
      subst (λ (x : List Lent). AreKeyedShares cs x) (sym i) (all-append (λ (s : Lent). AreKeyed cs s.keyed) old (lent ∷ []) a (subst (λ (x : List Keyed). AreKeyed cs x) (sym o) k, tt))

  -- without scans, all that a page gets begins in it
  points_alone : (page : PageOfKind) (l : Lent) (ks : List Keyed) → ks ≡ l.keyed → l.reaching ≡ [] → shares_below cs page (places_of ks) ≡ shares_below cs page (all_of (share_of_lent l))
  points_alone page l ks e n = ap (λ (x : List Keyed). shares_below cs page (places_of x)) e ∙ sym (ap (λ (rs : List ℕ). shares_below cs page (rs ++ places_of l.keyed)) n)

  all_points : (ps : List ℕ) → AllByRecursion (λ c. is_ranged c ≡ false) cs → ArePoints cs ps
  all_points [] h = tt
  all_points (p ∷ ps) h = (point_at cs p h, all_points ps h)

  -- a share of a page that no scan meets
  pub record IsOfPoints (page : PageOfKind) (l : Lent) (ks : List Keyed) : Type 0 where
    pub points : ArePoints cs (places_of ks)
    pub alone : shares_below cs page (places_of ks) ≡ shares_below cs page (all_of (share_of_lent l))

  pub of_batch : (page : PageOfKind) (l : Lent) (ks : List Keyed) → ks ≡ l.keyed → CanHandDownShare cs page (share_of_lent l) → list_any is_ranged cs ≡ false → IsOfPoints page l ks
  of_batch page l ks e h n = record {
    points = points_of_batch cs ks n;
    alone = points_alone page l ks e (none_reached (low_of page) l.reaching (all_points l.reaching (none_found is_ranged cs n)) h.reach);
  }

  pub of_share : (page : PageOfKind) (l : Lent) (ks : List Keyed) → ks ≡ l.keyed → is_met cs l ≡ false → IsOfPoints page l ks
  of_share page l ks e n = record {
    points = subst (λ (x : List Keyed). ArePoints cs (places_of x)) (sym e) (not_met cs l n);
    alone = points_alone page l ks e (none_reaching_by cs l.reaching l.keyed n);
  }
