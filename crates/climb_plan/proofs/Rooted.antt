-- Levels that are added above pages, and their places in the tree's table.
use Rattle.std.specs.Prelude.{◌≡◌, ℕ, zero, suc, ◌+◌, ◌<◌, ◌≤◌, Bool, true, false, cond, nat_lt, List, [], ◌∷◌, ◌++◌, map, flat_map, drop, length, Some, None}
use Rattle.std.proofs.Common.{refl, sym, ap, ◌∙◌, subst, arith, drop_of_length-le, ltb-true, ltb-false}
use Rattle.std.specs.List.{AllByRecursion, range_with_len}
use Rattle.std.proofs.lemmas.List.FromFn.{length-map-range_with_len}
use Rattle.std.proofs.lemmas.List.{length-map}
use Rattle.keys.specs.Lists.{flat}
use Rattle.keys.specs.Order.{IsRising}
use Rattle.keys.specs.declared.settings.Settings.{Settings}
use Rattle.index_page.specs.Page.{PageOfKind, bare, first_key}
use Rattle.index_page.specs.Page.PageOfKind.{Index}
use Rattle.index_page.proofs.ListLemmas.{all_apart}
use Rattle.mapping.specs.Levels.{Placed, name, names, pids, top_pid}
use Rattle.mapping.specs.FreshPids.{is_among, unused}
use Rattle.mapping.specs.Tree.{Logged}
use Rattle.mapping.specs.Tree.Logged.{Old}
use Rattle.mapping.specs.Proper.{AreRisingPids, Distinct, Tiled}
use Rattle.mapping.specs.Table.{Mapping, pids_in_use, place_of, freed_all, with_rooms, fresh_pids, IsOldWithoutPlace}
use Rattle.mapping.specs.TreeInMemory.{TreeInMemory}
use Rattle.mapping.proofs.PidLemmas.{all_among}
use Rattle.mapping.proofs.TileLemmas.{rising-names}
use Rattle.split_plan.specs.Cut.{piece_count, cut}
use Rattle.split_plan.specs.Change.{fresh_pages}
use Rattle.split_plan.proofs.ChangeLemmas.{length-fresh_pages, tiled-fresh_pages}
use Rattle.split_plan.proofs.CutLemmas.{fewer_pieces, length-cut, cut_full, cut-joined, cut_some}
use Rattle.split_plan.proofs.PidLemmas.{renewed-append, recast, renewed-fresh_pages, distinct_renewed}
use Rattle.split_plan.proofs.Renewed.{Renewed}
use Rattle.split_plan.proofs.Renewed.Renewed.{done as none_drawn, draw}
use Rattle.climb_plan.specs.Climb.{grown_levels}
use Rattle.climb_plan.specs.Rewriting.{named_pages}
use Rattle.climb_plan.specs.Installing.{AreAway, AreDrawn, AreGrown, put_under}
use Rattle.climb_plan.proofs.InstalledPages.{at_among}
use Rattle.climb_plan.proofs.Installing.{tree_under}
use Rattle.climb_plan.proofs.InstallingLemmas.{AreUnder, home-put_under, others-put_under, rising-put_under, logged-put_under, none_joined, none_each, none_after, each_other}

-- ---- places are removed

abbrev pub tree_less : TreeInMemory → List ℕ → TreeInMemory
tree_less tree pids = record tree { table = freed_all tree.table pids }

-- the tree before pids were allocated
pub drawn_back : (tree drawn now : TreeInMemory) (ks all : List ℕ) → AreDrawn tree drawn ks → IsOldWithoutPlace tree.table → all ≡ ks → now ≡ tree_less drawn all → now ≡ tree
drawn_back tree drawn now ks all d l e n =
    let whole : ℕ → ℕ → Mapping PageOfKind → TreeInMemory = λ r h t. record { table = t; root = r; height = h } in
    n ∙ ap (λ (x : List ℕ). tree_less drawn x) e ∙ ap (λ (t : Mapping PageOfKind). whole drawn.root drawn.height t) (d.back l)
    ∙ ap (λ (r : ℕ). whole r drawn.height tree.table) d.root ∙ ap (λ (h : ℕ). whole tree.root h tree.table) d.height

-- pids that were allocated at once are distinct
pub distinct_drawn : (used : List ℕ) (i n : ℕ) → Distinct (map (unused used) (range_with_len i n))
distinct_drawn used i n = distinct_renewed (renewed_range n i) tt tt
  where
    renewed_range : (n i : ℕ) → Renewed used i (i + n) [] (map (unused used) (range_with_len i n))
    renewed_range zero i = recast used (let e : i ≡ i + 0 = omega arith in e) refl refl none_drawn
    renewed_range (suc m) i =
        let next : i + 1 ≡ suc i = omega arith in
        draw (recast used (let e : suc i + m ≡ i + suc m = omega arith in e) refl (ap (λ (k : ℕ). map (unused used) (range_with_len k m)) (sym next)) (renewed_range m (suc i)))

pub away_drawn : (tree drawn : TreeInMemory) (n : ℕ) (ks all : List ℕ) → AreDrawn tree drawn ks → ks ≡ fresh_pids (pids_in_use tree.table) n → all ≡ ks → AreAway drawn.table all
away_drawn tree drawn n ks all d e f =
    subst (λ (x : List ℕ). AreAway drawn.table x) (sym f) (d.away, subst Distinct (sym e) (distinct_drawn (pids_in_use tree.table) 0 n))

-- ---- separators

abbrev Separator : Type 0
Separator = List ℕ × ℕ

no_more : (pages : List PageOfKind) (ks : List ℕ) (n : ℕ) → length pages ≤ n → named_pages (drop n pages) (drop n ks) ≡ []
no_more pages ks n h = ap (λ (qs : List PageOfKind). named_pages qs (drop n ks)) (drop_of_length-le pages h)

-- ---- pids are allocated

-- what the laws about allocated pids say, put together
pub drawn_is : (tree now : TreeInMemory) (n : ℕ) (pids : List ℕ) → pids ≡ fresh_pids (pids_in_use tree.table) n → now ≡ record tree { table = with_rooms tree.table (fresh_pids (pids_in_use tree.table) n) }
    → ((pid : ℕ) → is_among pid (fresh_pids (pids_in_use tree.table) n) ≡ true → place_of (with_rooms tree.table (fresh_pids (pids_in_use tree.table) n)) pid ≡ Some None)
    → ((pid : ℕ) → is_among pid (fresh_pids (pids_in_use tree.table) n) ≡ false → place_of (with_rooms tree.table (fresh_pids (pids_in_use tree.table) n)) pid ≡ place_of tree.table pid)
    → (with_rooms tree.table (fresh_pids (pids_in_use tree.table) n)).logged ≡ tree.table.logged
    → AreRisingPids (pids_in_use (with_rooms tree.table (fresh_pids (pids_in_use tree.table) n)))
    → ((m : ℕ) → unused (pids_in_use (with_rooms tree.table (fresh_pids (pids_in_use tree.table) n))) m ≡ unused (pids_in_use tree.table) (n + m))
    → (IsOldWithoutPlace tree.table → freed_all (with_rooms tree.table (fresh_pids (pids_in_use tree.table) n)) (fresh_pids (pids_in_use tree.table) n) ≡ tree.table)
    → AreDrawn tree now pids
drawn_is tree now n pids e w away others logged rising next back =
    let fresh : List ℕ = fresh_pids (pids_in_use tree.table) n in
    let u : Mapping PageOfKind = with_rooms tree.table fresh in
    let count : n ≡ length fresh = sym (length-map-range_with_len (unused (pids_in_use tree.table)) 0 n) in
    let is : AreDrawn tree (record tree { table = u }) fresh = record {
      away = each_other (λ q. is_among q fresh ≡ true) (λ q. place_of u q ≡ Some None) fresh away (all_among fresh);
      others = others;
      next = λ m. next m ∙ ap (λ (k : ℕ). unused (pids_in_use tree.table) (k + m)) count;
      rising = rising;
      logged = logged;
      root = refl;
      height = refl;
      back = back;
    } in
    subst (λ (t : TreeInMemory). AreDrawn tree t pids) (sym w) (subst (λ (ns : List ℕ). AreDrawn tree (record tree { table = u }) ns) (sym e) is)

-- as many as there are pages
pub length_drawn : (tree : TreeInMemory) (n : ℕ) (ks : List ℕ) → ks ≡ fresh_pids (pids_in_use tree.table) n → length ks ≡ n
length_drawn tree n ks e = ap (λ (x : List ℕ). length x) e ∙ length-map-range_with_len (unused (pids_in_use tree.table)) 0 n

-- ---- enough levels

grown_by : (b : Bool) (enough : ℕ) (s : Settings) (used : List ℕ) (i : ℕ) (ps : List (Placed ℕ)) → ((j : ℕ) (up : List (Placed ℕ)) → (k : ℕ) × Renewed used j k [] (flat_map pids (grown_levels enough s used j up)))
    → (k : ℕ) × Renewed used i k [] (flat_map pids (cond b (let up : List (Placed ℕ) = fresh_pages used i (cut s.fan (names ps)) in up ∷ grown_levels enough s used (i + length up) up) []))
grown_by false enough s used i ps ih = (i, none_drawn)
grown_by true enough s used i ps ih =
    let up : List (Placed ℕ) = fresh_pages used i (cut s.fan (names ps)) in
    let r = ih (i + length up) up in
    (r.0, renewed-append (renewed-fresh_pages used i (cut s.fan (names ps))) r.1)

renewed-grown_levels : (enough : ℕ) (s : Settings) (used : List ℕ) (i : ℕ) (ps : List (Placed ℕ)) → (k : ℕ) × Renewed used i k [] (flat_map pids (grown_levels enough s used i ps))
renewed-grown_levels zero s used i ps = (i, none_drawn)
renewed-grown_levels (suc enough) s used i ps = grown_by (nat_lt 1 (length ps)) enough s used i ps (λ j up. renewed-grown_levels enough s used j up)

module _ (s : Settings) (used : List ℕ) (fan : 1 < s.fan) where
  abbrev upper_of : ℕ → List (Placed ℕ) → List (Placed ℕ)
  upper_of i ps = fresh_pages used i (cut s.fan (names ps))

  -- a level that grows has fewer pages
  fewer : (i : ℕ) (ps : List (Placed ℕ)) → 1 < length ps → length (upper_of i ps) < length ps
  fewer i ps h =
      let same : length (names ps) ≡ length ps = length-map ps name in
      let several : 1 < length (names ps) = omega arith in
      let less : piece_count s.fan (length (names ps)) < length (names ps) = fewer_pieces s.fan (length (names ps)) fan several in
      let all : length (upper_of i ps) ≡ piece_count s.fan (length (names ps)) = length-fresh_pages used i (cut s.fan (names ps)) ∙ length-cut s.fan (names ps) in
      omega arith

  few : (b : Bool) (e i : ℕ) (ps : List (Placed ℕ)) → nat_lt 1 (length ps) ≡ b → length ps ≤ 0 → [] ≡ cond b (let up : List (Placed ℕ) = upper_of i ps in up ∷ grown_levels e s used (i + length up) up) []
  few true e i ps h l = absurd (let x = ltb-true 1 (length ps) h in omega arith)
  few false e i ps h l = refl

  enough_by : (b : Bool) (d e i : ℕ) (ps : List (Placed ℕ)) → nat_lt 1 (length ps) ≡ b → length ps ≤ suc d → length ps ≤ suc e → ((j : ℕ) (up : List (Placed ℕ)) → length up ≤ d → length up ≤ e → grown_levels d s used j up ≡ grown_levels e s used j up)
      → cond b (let up : List (Placed ℕ) = upper_of i ps in up ∷ grown_levels d s used (i + length up) up) [] ≡ cond b (let up : List (Placed ℕ) = upper_of i ps in up ∷ grown_levels e s used (i + length up) up) []
  enough_by true d e i ps h l m ih =
      let up : List (Placed ℕ) = upper_of i ps in
      let less : length up < length ps = fewer i ps (ltb-true 1 (length ps) h) in
      ap (λ (ls : List (List (Placed ℕ))). up ∷ ls) (ih (i + length up) up (omega arith) (omega arith))
  enough_by false d e i ps h l m ih = refl

  -- if a number of levels is enough, another that is enough makes no difference
  enough_grown : (d e i : ℕ) (ps : List (Placed ℕ)) → length ps ≤ d → length ps ≤ e → grown_levels d s used i ps ≡ grown_levels e s used i ps
  enough_grown zero zero i ps l m = refl
  enough_grown zero (suc e) i ps l m = few (nat_lt 1 (length ps)) e i ps refl l
  enough_grown (suc d) zero i ps l m = sym (few (nat_lt 1 (length ps)) d i ps refl m)
  enough_grown (suc d) (suc e) i ps l m = enough_by (nat_lt 1 (length ps)) d e i ps refl l m (λ j up x y. enough_grown d e j up x y)

  more_by : (b : Bool) (e i : ℕ) (ps : List (Placed ℕ)) → nat_lt 1 (length ps) ≡ b → 1 < length ps → length ps ≤ suc e
      → cond b (let up : List (Placed ℕ) = upper_of i ps in up ∷ grown_levels e s used (i + length up) up) [] ≡ upper_of i ps ∷ grown_levels (length (upper_of i ps)) s used (i + length (upper_of i ps)) (upper_of i ps)
  more_by true e i ps h l m =
      let up : List (Placed ℕ) = upper_of i ps in
      let less : length up < length ps = fewer i ps l in
      ap (λ (ls : List (List (Placed ℕ))). up ∷ ls) (enough_grown e (length up) (i + length up) up (omega arith) (omega arith))
  more_by false e i ps h l m = absurd (let x = ltb-false 1 (length ps) h in omega arith)

  -- several pages grow a level, and those that grow above it
  grown_more : (n i : ℕ) (ps : List (Placed ℕ)) → length ps ≤ n → 1 < length ps → grown_levels n s used i ps ≡ upper_of i ps ∷ grown_levels (length (upper_of i ps)) s used (i + length (upper_of i ps)) (upper_of i ps)
  grown_more zero i ps l h = absurd (omega arith)
  grown_more (suc e) i ps l h = more_by (nat_lt 1 (length ps)) e i ps refl h l

-- ---- the pages of a level that grows

abbrev Bases : Type 0
Bases = List (List Separator)

abbrev index_of_base : List Separator → PageOfKind
index_of_base b = Index (bare (first_key b) b)

range_next : (i n : ℕ) → range_with_len (i + 1) n ≡ range_with_len (suc i) n
range_next i n = let e : i + 1 ≡ suc i = omega arith in ap (λ (k : ℕ). range_with_len k n) e

pids-fresh_pages : (used : List ℕ) (i : ℕ) (bs : Bases) → pids (fresh_pages used i bs) ≡ map (unused used) (range_with_len i (length bs))
pids-fresh_pages used i [] = refl
pids-fresh_pages used i (b ∷ bs) =
    ap (λ (ns : List ℕ). unused used i ∷ ns) (pids-fresh_pages used (suc i) bs ∙ ap (λ (ns : List ℕ). map (unused used) ns) (sym (range_next i (length bs))))

named-fresh_pages : (used : List ℕ) (i : ℕ) (bs : Bases) → named_pages (map index_of_base bs) (pids (fresh_pages used i bs)) ≡ names (fresh_pages used i bs)
named-fresh_pages used i [] = refl
named-fresh_pages used i (b ∷ bs) = ap (λ (ns : List Separator). (first_key b, unused used i) ∷ ns) (named-fresh_pages used (suc i) bs)

-- pages are numbered alike where the same numbers are unused
fresh_pages-alike : (used other : List ℕ) (i j : ℕ) (bs : Bases) → ((m : ℕ) → unused other (j + m) ≡ unused used (i + m)) → fresh_pages other j bs ≡ fresh_pages used i bs
fresh_pages-alike used other i j [] h = refl
fresh_pages-alike used other i j (b ∷ bs) h =
    let a : j ≡ j + 0 = omega arith in
    let c : i + 0 ≡ i = omega arith in
    let first : unused other j ≡ unused used i = ap (unused other) a ∙ h 0 ∙ ap (unused used) c in
    let later : (m : ℕ) → unused other (suc j + m) ≡ unused used (suc i + m) = λ m. (let x : suc j + m ≡ j + suc m = omega arith in let y : i + suc m ≡ suc i + m = omega arith in ap (unused other) x ∙ h (suc m) ∙ ap (unused used) y) in
    ap (λ (n : ℕ). record { pid = n; page = bare (first_key b) b } ∷ fresh_pages other (suc j) bs) first
    ∙ ap (λ (ps : List (Placed ℕ)). record { pid = unused used i; page = bare (first_key b) b } ∷ ps) (fresh_pages-alike used other (suc i) (suc j) bs later)

stays_away : (t u : Mapping PageOfKind) (ks : List ℕ) → AllByRecursion (λ q. place_of t q ≡ place_of u q) ks → AllByRecursion (λ q. place_of u q ≡ Some None) ks → AllByRecursion (λ q. place_of t q ≡ Some None) ks
stays_away t u [] a b = tt
stays_away t u (k ∷ ks) a b = (a.0 ∙ b.0, stays_away t u ks a.1 b.1)

-- pages under the pids of a level are in the table there
under_level : (u : Mapping PageOfKind) (used : List ℕ) (i : ℕ) (bs : Bases) → AreUnder u (pids (fresh_pages used i bs)) (map index_of_base bs) → AllByRecursion (λ p. place_of u p.pid ≡ Some (Some (Index p.page))) (fresh_pages used i bs)
under_level u used i [] a = tt
under_level u used i (b ∷ bs) a = (a.0, under_level u used (suc i) bs a.1)

level_stays : (t u : Mapping PageOfKind) (ps : List (Placed ℕ)) → AllByRecursion (λ q. place_of u q ≡ place_of t q) (pids ps) → AllByRecursion (λ p. place_of t p.pid ≡ Some (Some (Index p.page))) ps → AllByRecursion (λ p. place_of u p.pid ≡ Some (Some (Index p.page))) ps
level_stays t u [] a b = tt
level_stays t u (p ∷ ps) a b = (a.0 ∙ b.0, level_stays t u ps a.1 b.1)

levels_stay : (t u : Mapping PageOfKind) (ls : List (List (Placed ℕ))) → AllByRecursion (λ q. place_of u q ≡ place_of t q) (flat_map pids ls) → AllByRecursion (AllByRecursion (λ p. place_of t p.pid ≡ Some (Some (Index p.page)))) ls
    → AllByRecursion (AllByRecursion (λ p. place_of u p.pid ≡ Some (Some (Index p.page)))) ls
levels_stay t u [] a b = tt
levels_stay t u (l ∷ ls) a b =
    let parts = all_apart (λ q. place_of u q ≡ place_of t q) (pids l) (flat_map pids ls) a in
    (level_stays t u l parts.0 b.0, levels_stay t u ls parts.1 b.1)

-- a level that is split from these entries, in a tree from which its pids were allocated
pub record IsCut (s : Settings) (ns : List Separator) (pages : List PageOfKind) (fresh : List ℕ) (upper : List Separator) (tree drawn : TreeInMemory) : Type 0 where
  pub fan : 1 < s.fan
  pub several : 1 < length ns
  pub rising : IsRising ns
  pub pages_are : pages ≡ map index_of_base (cut s.fan ns)
  pub fresh_is : fresh ≡ fresh_pids (pids_in_use tree.table) (length pages)
  pub upper_is : upper ≡ named_pages pages fresh
  pub are_drawn : AreDrawn tree drawn fresh

module _ (s : Settings) (ns : List Separator) (pages : List PageOfKind) (fresh : List ℕ) (upper : List Separator) (tree drawn : TreeInMemory) (is : IsCut s ns pages fresh upper tree drawn) where
  abbrev pub bases : Bases
  bases = cut s.fan ns

  abbrev pub in_use : List ℕ
  in_use = pids_in_use tree.table

  abbrev pub cut_level : List (Placed ℕ)
  cut_level = fresh_pages in_use 0 bases

  count : length pages ≡ length bases
  count = ap (λ (ps : List PageOfKind). length ps) is.pages_are ∙ length-map bases index_of_base

  pub fresh_are : fresh ≡ pids cut_level
  fresh_are = is.fresh_is ∙ ap (λ (n : ℕ). fresh_pids in_use n) count ∙ sym (pids-fresh_pages in_use 0 bases)

  pub upper_are : upper ≡ names cut_level
  upper_are = is.upper_is ∙ ap (λ (ks : List ℕ). named_pages pages ks) fresh_are ∙ ap (λ (ps : List PageOfKind). named_pages ps (pids cut_level)) is.pages_are ∙ named-fresh_pages in_use 0 bases

  pub as_many : length fresh ≡ length bases
  as_many = length_drawn tree (length pages) fresh is.fresh_is ∙ count

  pub some_upper : 0 < length upper
  some_upper =
      let a : length upper ≡ length cut_level = ap (λ (x : List Separator). length x) upper_are ∙ length-map cut_level name in
      let b : length cut_level ≡ length bases = length-fresh_pages in_use 0 bases in
      let c : 0 < length bases = cut_some s.fan ns in
      omega arith

  pub rising_upper : IsRising upper
  rising_upper =
      let zero_fan : 0 < s.fan = let f = is.fan in omega arith in
      let some : 0 < length ns = let f = is.several in omega arith in
      let full = cut_full s.fan ns zero_fan some in
      let rising : IsRising (flat bases) = subst (λ (x : List Separator). IsRising x) (sym (cut-joined s.fan ns)) is.rising in
      let tiled : Tiled cut_level None = tiled-fresh_pages in_use 0 bases None full rising tt in
      subst (λ (x : List Separator). IsRising x) (sym upper_are) (rising-names cut_level None tiled)

  distinct_fresh : Distinct fresh
  distinct_fresh = subst Distinct (sym fresh_are) (distinct_renewed (renewed-fresh_pages in_use 0 bases) tt tt)

  pub drawn_away : AreAway drawn.table fresh
  drawn_away = (is.are_drawn.away, distinct_fresh)

  -- a place that has no page in the tree after the allocation had none before
  had_none : (q : ℕ) → place_of drawn.table q ≡ None → place_of tree.table q ≡ None
  had_none q h = by_case (is_among q fresh) refl
    where
      by_case : (b : Bool) → is_among q fresh ≡ b → place_of tree.table q ≡ None
      by_case true e = let away : place_of drawn.table q ≡ Some None = at_among (λ k. place_of drawn.table k ≡ Some None) q fresh is.are_drawn.away e in let x : Some None ≡ None = sym away ∙ h in absurd (cc)
      by_case false e = sym (is.are_drawn.others q e) ∙ h

  still_logs : (ls : List (ℕ × Logged)) → AllByRecursion (λ l. place_of tree.table l.0 ≡ None → l.1 ≡ Old) ls → AllByRecursion (λ l. place_of drawn.table l.0 ≡ None → l.1 ≡ Old) ls
  still_logs [] a = tt
  still_logs (l ∷ ls) a = (λ h. a.0 (had_none l.0 h), still_logs ls a.1)

  pub drawn_logs : IsOldWithoutPlace tree.table → IsOldWithoutPlace drawn.table
  drawn_logs a = subst (λ (ls : List (ℕ × Logged)). AllByRecursion (λ l. place_of drawn.table l.0 ≡ None → l.1 ≡ Old) ls) (sym is.are_drawn.logged) (still_logs tree.table.logged a)

  -- ---- what grows above it

  number_after : (m : ℕ) → unused (pids_in_use drawn.table) m ≡ unused in_use (length fresh + m)
  number_after m = is.are_drawn.next m

  as_level : length fresh ≡ length cut_level
  as_level = as_many ∙ sym (length-fresh_pages in_use 0 bases)

  pub number_zero : (m : ℕ) → unused (pids_in_use drawn.table) m ≡ unused in_use ((0 + length cut_level) + m)
  number_zero m =
      let z : length cut_level + m ≡ (0 + length cut_level) + m = omega arith in
      number_after m ∙ ap (λ (n : ℕ). unused in_use (n + m)) as_level ∙ ap (unused in_use) z

  -- the new pids are not among those that are allocated later
  all_distinct : (e : ℕ) → Distinct (pids cut_level ++ flat_map pids (grown_levels e s in_use (0 + length cut_level) cut_level))
  all_distinct e = distinct_renewed (renewed-append (renewed-fresh_pages in_use 0 bases) (renewed-grown_levels e s in_use (0 + length cut_level) cut_level).1) tt tt

  pub still_away : (e : ℕ) (over : TreeInMemory) → AreGrown drawn over (grown_levels e s in_use (0 + length cut_level) cut_level) → AreAway over.table fresh
  still_away e over g =
      let ls : List (List (Placed ℕ)) = grown_levels e s in_use (0 + length cut_level) cut_level in
      let apart : AllByRecursion (λ q. is_among q (flat_map pids ls) ≡ false) (pids cut_level) = none_each (pids cut_level) (flat_map pids ls) (all_distinct e) in
      let same : AllByRecursion (λ q. place_of over.table q ≡ place_of drawn.table q) fresh =
      subst (λ (ks : List ℕ). AllByRecursion (λ q. place_of over.table q ≡ place_of drawn.table q) ks) (sym fresh_are) (each_other (λ q. is_among q (flat_map pids ls) ≡ false) (λ q. place_of over.table q ≡ place_of drawn.table q) (pids cut_level) g.others apart) in
      (stays_away over.table drawn.table fresh same is.are_drawn.away, distinct_fresh)

  module _ (used : List ℕ) (i : ℕ) (ps : List (Placed ℕ)) (alike : (m : ℕ) → unused in_use m ≡ unused used (i + m)) (named : names ps ≡ ns) where
    abbrev pub up : List (Placed ℕ)
    up = fresh_pages used i (cut s.fan (names ps))

    several_pages : 1 < length ps
    several_pages =
        let same : length (names ps) ≡ length ps = length-map ps name in
        let all : length (names ps) ≡ length ns = ap (λ (x : List Separator). length x) named in
        let h = is.several in
        omega arith

    up_is : cut_level ≡ up
    up_is =
        fresh_pages-alike used in_use i 0 bases (λ m. (let z : 0 + m ≡ m = omega arith in ap (unused in_use) z ∙ alike m))
        ∙ ap (λ (x : List Separator). fresh_pages used i (cut s.fan x)) (sym named)

    pub up_named : names up ≡ upper
    up_named = ap (λ (qs : List (Placed ℕ)). names qs) (sym up_is) ∙ sym upper_are

    pub up_numbered : (m : ℕ) → unused (pids_in_use drawn.table) m ≡ unused used ((i + length up) + m)
    up_numbered m =
        let e : length fresh ≡ length up = as_level ∙ ap (λ (qs : List (Placed ℕ)). length qs) up_is in
        let z : i + (length fresh + m) ≡ (i + length up) + m = omega arith in
        number_after m ∙ alike (length fresh + m) ∙ ap (unused used) z

    abbrev pub above : List (List (Placed ℕ))
    above = grown_levels (length up) s used (i + length up) up

    pub grown_is : grown_levels (length ps) s used i ps ≡ up ∷ above
    grown_is = grown_more s used is.fan (length ps) i ps (omega arith) several_pages

    up_distinct : Distinct (pids up ++ flat_map pids above)
    up_distinct = distinct_renewed (renewed-append (renewed-fresh_pages used i (cut s.fan (names ps))) (renewed-grown_levels (length up) s used (i + length up) up).1) tt tt

    fresh_up : fresh ≡ pids up
    fresh_up = fresh_are ∙ ap (λ (qs : List (Placed ℕ)). pids qs) up_is

    all_grown : (over : TreeInMemory) → AreGrown drawn over above → AreGrown tree (tree_under over fresh pages) (up ∷ above)
    all_grown over g =
        let u : Mapping PageOfKind = put_under over.table fresh pages in
        let as_pages : length pages ≡ length fresh = sym (length_drawn tree (length pages) fresh is.fresh_is) in
        let under : AreUnder u fresh pages = home-put_under over.table fresh pages distinct_fresh as_pages in
        let own : AreUnder u (pids up) (map index_of_base (cut s.fan (names ps))) =
        subst (λ (x : List Separator). AreUnder u (pids up) (map index_of_base (cut s.fan x))) (sym named) (subst (λ (qs : List PageOfKind). AreUnder u (pids up) qs) is.pages_are (subst (λ (ks : List ℕ). AreUnder u ks pages) fresh_up under)) in
        let apart : AllByRecursion (λ q. is_among q (pids up) ≡ false) (flat_map pids above) = none_after (pids up) (flat_map pids above) up_distinct in
        let put_apart : (q : ℕ) → is_among q (pids up) ≡ false → place_of u q ≡ place_of over.table q = λ q h. others-put_under q over.table fresh pages (ap (λ (ks : List ℕ). is_among q ks) fresh_up ∙ h) in
        let same : AllByRecursion (λ q. place_of u q ≡ place_of over.table q) (flat_map pids above) = each_other (λ q. is_among q (pids up) ≡ false) (λ q. place_of u q ≡ place_of over.table q) (flat_map pids above) put_apart apart in
        record {
          new = (under_level u used i (cut s.fan (names ps)) own, levels_stay over.table u above same g.new);
          others = λ q h. (let x = none_joined q (pids up) (flat_map pids above) h in put_apart q x.0 ∙ g.others q x.1 ∙ is.are_drawn.others q (ap (λ (ks : List ℕ). is_among q ks) fresh_up ∙ x.0));
          rising = rising-put_under over.table fresh pages g.rising;
          logged = logged-put_under over.table fresh pages ∙ g.logged ∙ is.are_drawn.logged;
          root = g.root ∙ is.are_drawn.root;
          height = g.height ∙ is.are_drawn.height;
        }

    -- what grew above the level and the level itself are what grew above the pages below
    pub grown_result : (height : ℕ) (top : ℕ × ℕ) (over now : TreeInMemory) (qs : List PageOfKind) (ks : List ℕ) → (top.0 ≡ top_pid up above) × (top.1 ≡ (height + 1) + length above) × AreGrown drawn over above → qs ≡ pages → ks ≡ fresh → now ≡ tree_under over ks qs
        → (top.0 ≡ top_pid ps (grown_levels (length ps) s used i ps)) × (top.1 ≡ height + length (grown_levels (length ps) s used i ps)) × AreGrown tree now (grown_levels (length ps) s used i ps)
    grown_result height top over now qs ks r e f n =
        let whole : List (List (Placed ℕ)) → Type 0 = λ ls. (top.0 ≡ top_pid ps ls) × (top.1 ≡ height + length ls) × AreGrown tree now ls in
        let is_now : now ≡ tree_under over fresh pages = n ∙ ap (λ (x : List ℕ). tree_under over x qs) f ∙ ap (λ (x : List PageOfKind). tree_under over fresh x) e in
        let all : AreGrown tree now (up ∷ above) = subst (λ (t : TreeInMemory). AreGrown tree t (up ∷ above)) (sym is_now) (all_grown over r.2) in
        let levels : top.1 ≡ height + length (up ∷ above) = (let h = r.1 in omega arith) in
        subst whole (sym grown_is) (r.0, levels, all)

    pub too_high : (height : ℕ) → 64 < (height + 1) + length above → 64 < height + length (grown_levels (length ps) s used i ps)
    too_high height h =
        let more : 64 < height + length (up ∷ above) = omega arith in
        subst (λ (ls : List (List (Placed ℕ))). 64 < height + length ls) (sym grown_is) more

-- the parts of a level that is cut, in the form of the code
pub cut_is : (s : Settings) (ns : List Separator) (pages lent : List PageOfKind) (fresh : List ℕ) (upper : List Separator) (tree drawn : TreeInMemory) → 1 < s.fan → 0 < length ns → (length ns ≡ 1 → ⊥) → IsRising ns → pages ≡ map index_of_base (cut s.fan ns) → lent ≡ pages
    → fresh ≡ fresh_pids (pids_in_use tree.table) (length lent) → upper ≡ named_pages lent fresh → AreDrawn tree drawn fresh → IsCut s ns pages fresh upper tree drawn
cut_is s ns pages lent fresh upper tree drawn f some one r p l e u d = record {
  fan = f;
  several = several (length ns) some one;
  rising = r;
  pages_are = p;
  fresh_is = e ∙ ap (λ (qs : List PageOfKind). fresh_pids (pids_in_use tree.table) (length qs)) l;
  upper_is = u ∙ ap (λ (qs : List PageOfKind). named_pages qs fresh) l;
  are_drawn = d;
}
  where
    several : (n : ℕ) → 0 < n → (n ≡ 1 → ⊥) → 1 < n
    several zero h k = absurd (omega arith)
    several (suc zero) h k = absurd (k refl)
    several (suc (suc n)) h k = omega arith

pub away_before : (tree now : TreeInMemory) (ks all : List ℕ) → AreAway tree.table ks → now ≡ tree → all ≡ ks → AreAway now.table all
away_before tree now ks all h n e = subst (λ (t : TreeInMemory). AreAway t.table all) (sym n) (subst (λ (x : List ℕ). AreAway tree.table x) (sym e) h)
