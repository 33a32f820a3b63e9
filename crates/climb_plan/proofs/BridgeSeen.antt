-- From the views of a level's pages, of either kind, in the code to the definitions of the plan.
use Rattle.std.specs.Prelude.{◌≡◌, ℕ, Bool, true, false, cond, List, [], ◌∷◌, ◌++◌, map, take, drop, length, Some}
use Rattle.std.proofs.Common.{refl, sym, ap, ◌∙◌}
use Rattle.std.specs.List.{filter, AllByRecursion}
use Rattle.std.proofs.lemmas.List.{length-map, take-map, drop-map, map-append}
use Rattle.index_page.specs.Page.{Page, PageOfKind}
use Rattle.index_page.specs.Page.PageOfKind.{Index}
use Rattle.mapping.specs.Levels.{Placed, entries, name, names}
use Rattle.mapping.specs.Table.{Mapping, at_home, page_of}
use Rattle.mapping.specs.TreeInMemory.{TreeInMemory}
use Rattle.mapping.proofs.TileLemmas.{Separators, next_low-parents}
use Rattle.page_runs.specs.Updated.{Updated, is_thin}
use Rattle.split_plan.specs.Groups.{Gathered, with_child, gathered, with_leading, groups}
use Rattle.split_plan.specs.Change.{is_rewritten}
use Rattle.split_plan.specs.UpdatedLevel.{placed_of}
use Rattle.climb_plan.specs.Changing.{SeenPage, page_seen, same_page, AreSeen, AreHome, Changing, groups_to_rewrite, with_changing, changing_families, changing_groups}
use Rattle.climb_plan.specs.Level.{group_counts, IsKind, IsLevel}
use Rattle.climb_plan.specs.Rewriting.{seen_name, is_thin_seen, is_rewritten_seen, AreSeenIn, rewritten_groups, Rewriting, with_rewriting, rewriting_families, rewriting_counts, groups_of, IsLevelSeen}
use Rattle.climb_plan.proofs.LevelParts.{level_of}

-- ---- grouping commutes with mapping the elements

module _ {X Y : Type 0} (f : X → Y) where
  abbrev gathered_by : Gathered X → Gathered Y
  gathered_by g = record { leading = map f g.leading; groups = map (λ h. map f h) g.groups }

  with_child-by : (b : Bool) (x : X) (g : Gathered X) → with_child b (f x) (gathered_by g) ≡ gathered_by (with_child b x g)
  with_child-by true x g = refl
  with_child-by false x g = refl

  gathered-map : (test : Y → Bool) (xs : List X) → gathered test (map f xs) ≡ gathered_by (gathered (λ x. test (f x)) xs)
  gathered-map test [] = refl
  gathered-map test (x ∷ xs) =
      ap (λ (g : Gathered Y). with_child (test (f x)) (f x) g) (gathered-map test xs) ∙ with_child-by (test (f x)) x (gathered (λ y. test (f y)) xs)

  with_leading-map : (lead : List X) (gs : List (List X)) → with_leading (map f lead) (map (λ h. map f h) gs) ≡ map (λ h. map f h) (with_leading lead gs)
  with_leading-map [] gs = refl
  with_leading-map (x ∷ xs) [] = refl
  with_leading-map (x ∷ xs) (g ∷ gs) = ap (λ (ys : List Y). (f x ∷ ys) ∷ map (λ h. map f h) gs) (sym (map-append f xs g))

  pub groups-map : (test : Y → Bool) (xs : List X) → groups test (map f xs) ≡ map (λ h. map f h) (groups (λ x. test (f x)) xs)
  groups-map test xs =
      let g : Gathered X = gathered (λ x. test (f x)) xs in
      ap (λ (h : Gathered Y). with_leading h.leading h.groups) (gathered-map test xs) ∙ with_leading-map g.leading g.groups

  filtered_by : (b : Bool) (x : X) (xs : List X) (ys : List Y) → ys ≡ map f xs → cond b (f x ∷ ys) ys ≡ map f (cond b (x ∷ xs) xs)
  filtered_by true x xs ys e = ap (λ (zs : List Y). f x ∷ zs) e
  filtered_by false x xs ys e = e

  -- those of them that pass a test are made of those that pass the same test
  pub filter-map : (test : Y → Bool) (own : X → Bool) (xs : List X) → ((x : X) → test (f x) ≡ own x) → filter test (map f xs) ≡ map f (filter own xs)
  filter-map test own [] h = refl
  filter-map test own (x ∷ xs) h =
      ap (λ (b : Bool). cond b (f x ∷ filter test (map f xs)) (filter test (map f xs))) (h x) ∙ filtered_by (own x) x (filter own xs) (filter test (map f xs)) (filter-map test own xs h)

-- ---- pages of the levels above

at_home_each : (t : Mapping PageOfKind) (ps : List (Placed ℕ)) → AreHome Index t ps → AllByRecursion (λ p. page_of t p.pid ≡ Some (Index p.page)) ps
at_home_each t [] h = tt
at_home_each t (p ∷ ps) h = (ap at_home h.0, at_home_each t ps h.1)

at_home_above : (t : Mapping PageOfKind) (ups : List (List (Placed ℕ))) → AllByRecursion (AreHome Index t) ups → AllByRecursion (AllByRecursion (λ p. page_of t p.pid ≡ Some (Index p.page))) ups
at_home_above t [] h = tt
at_home_above t (up ∷ ups) h = (at_home_each t up h.0, at_home_above t ups h.1)

module _ {V : Type 0} (of : Page V → PageOfKind) where
  -- ---- pages as they are seen

  -- the pages of a level that were seen are those of its pages in the form of the code
  pub seen_in : (t : Mapping PageOfKind) {xs : List SeenPage} {ws : List (Updated V)} → AreSeen of t xs ws → AreSeenIn t xs (map (page_seen of) ws)
  seen_in t (AreSeen.none) = AreSeenIn.none
  seen_in t (AreSeen.updated w e r) = AreSeenIn.updated (page_seen of w) (seen_in t r)
  seen_in t (AreSeen.at_home p e r) = AreSeenIn.at_home (page_seen of (same_page p)) refl refl (ap at_home e) (seen_in t r)

  -- ---- groups

  -- groups of pages as they are seen
  abbrev pub shown_groups : List (List (Updated V)) → List (List SeenPage)
  shown_groups gs = map (λ g. map (page_seen of) g) gs

  pub rewritten_shown : (g : List (Updated V)) → is_rewritten_seen (map (page_seen of) g) ≡ is_rewritten g
  rewritten_shown [] = refl
  rewritten_shown (w ∷ []) = refl
  rewritten_shown (w ∷ v ∷ ws) = refl

  -- the same groups are rewritten
  pub filter-page_seen : (gs : List (List (Updated V))) → filter is_rewritten_seen (shown_groups gs) ≡ shown_groups (filter is_rewritten gs)
  filter-page_seen gs = filter-map (λ (g : List (Updated V)). map (page_seen of) g) is_rewritten_seen is_rewritten gs rewritten_shown

  rewritten_groups-page_seen : (f : List (Updated V)) → rewritten_groups (map (page_seen of) f) ≡ shown_groups (groups_to_rewrite f)
  rewritten_groups-page_seen f =
      ap (λ (gs : List (List SeenPage)). filter is_rewritten_seen gs) (groups-map (page_seen of) is_thin_seen f) ∙ filter-page_seen (groups is_thin f)

  -- a parent whose family changes, in the form of the code
  abbrev pub rewriting_of : Changing V → Rewriting
  rewriting_of c = record { parent = c.parent.pid; groups = shown_groups c.groups }

  with_rewriting-page_seen : (gs : List (List (Updated V))) (p : Placed ℕ) (chs : List (Changing V)) → (let c : Changing V = record { parent = p; groups = gs } in with_rewriting p.pid (shown_groups gs) (map rewriting_of chs) ≡ map rewriting_of (with_changing gs c chs))
  with_rewriting-page_seen [] p chs = refl
  with_rewriting-page_seen (g ∷ gs) p chs = refl

  -- the parents with groups that are rewritten are those whose families change
  pub rewriting_families-page_seen : (ps : List (Placed ℕ)) (ws : List (Updated V)) → rewriting_families ps (map (page_seen of) ws) ≡ map rewriting_of (changing_families ps ws)
  rewriting_families-page_seen [] ws = refl
  rewriting_families-page_seen (p ∷ ps) ws =
      let n : ℕ = length (entries p) in
      let f : List (Updated V) = take n ws in
      let more : List (Updated V) = drop n ws in
      let all : List SeenPage = map (page_seen of) ws in
      ap (λ (g : List SeenPage). with_rewriting p.pid (rewritten_groups g) (rewriting_families ps (drop n all))) (take-map (page_seen of) n ws)
      ∙ ap (λ (g : List SeenPage). with_rewriting p.pid (rewritten_groups (map (page_seen of) f)) (rewriting_families ps g)) (drop-map (page_seen of) n ws)
      ∙ ap (λ (gs : List (List SeenPage)). with_rewriting p.pid gs (rewriting_families ps (map (page_seen of) more))) (rewritten_groups-page_seen f)
      ∙ ap (λ (rs : List Rewriting). with_rewriting p.pid (shown_groups (groups_to_rewrite f)) rs) (rewriting_families-page_seen ps more)
      ∙ with_rewriting-page_seen (groups_to_rewrite f) p (changing_families ps more)

  counted_each : (chs : List (Changing V)) → rewriting_counts (map rewriting_of chs) ≡ group_counts chs
  counted_each [] = refl
  counted_each (c ∷ chs) =
      let pair : ℕ → ℕ × ℕ = λ n. (c.parent.pid, n) in
      ap (λ (n : ℕ). pair n ∷ rewriting_counts (map rewriting_of chs)) (length-map c.groups (λ (g : List (Updated V)). map (page_seen of) g)) ∙ ap (λ (cs : List (ℕ × ℕ)). pair (length c.groups) ∷ cs) (counted_each chs)

  -- each such parent has as many groups that are rewritten
  pub rewriting_counts-page_seen : (ps : List (Placed ℕ)) (ws : List (Updated V)) → rewriting_counts (rewriting_families ps (map (page_seen of) ws)) ≡ group_counts (changing_families ps ws)
  rewriting_counts-page_seen ps ws = ap (λ (rs : List Rewriting). rewriting_counts rs) (rewriting_families-page_seen ps ws) ∙ counted_each (changing_families ps ws)

  groups_each : (chs : List (Changing V)) → groups_of (map rewriting_of chs) ≡ shown_groups (changing_groups chs)
  groups_each [] = refl
  groups_each (c ∷ chs) =
      ap (λ (gs : List (List SeenPage)). shown_groups c.groups ++ gs) (groups_each chs) ∙ sym (map-append (λ (g : List (Updated V)). map (page_seen of) g) c.groups (changing_groups chs))

  -- the groups that are rewritten are those of the families that change
  pub groups-page_seen : (ps : List (Placed ℕ)) (ws : List (Updated V)) → groups_of (rewriting_families ps (map (page_seen of) ws)) ≡ shown_groups (changing_groups (changing_families ps ws))
  groups-page_seen ps ws = ap (λ (rs : List Rewriting). groups_of rs) (rewriting_families-page_seen ps ws) ∙ groups_each (changing_families ps ws)

  -- ---- levels

  module _ (kind : IsKind of) where
    pub seen_name-page_seen : (w : Updated V) → seen_name (page_seen of w) ≡ name w.placed
    seen_name-page_seen w = let pair : List ℕ → List ℕ × ℕ = λ k. (k, w.placed.pid) in ap pair (kind.low w.placed.page)

    pub names-page_seen : (ws : List (Updated V)) → map seen_name (map (page_seen of) ws) ≡ names (placed_of ws)
    names-page_seen [] = refl
    names-page_seen (w ∷ ws) =
        ap (λ (n : List ℕ × ℕ). n ∷ map seen_name (map (page_seen of) ws)) (seen_name-page_seen w) ∙ ap (λ (ns : Separators). name w.placed ∷ ns) (names-page_seen ws)

    -- a level during a climb is one in the form of the code
    pub level_seen : (t : TreeInMemory) (xs : List SeenPage) (ws : List (Updated V)) (ps : List (Placed ℕ)) (ups : List (List (Placed ℕ))) (used : List ℕ) (i : ℕ) → IsLevel of t xs (level_of ws (ps ∷ ups) used i) → IsLevelSeen t (length ups) xs (map (page_seen of) ws) ps ups
    level_seen t xs ws ps ups used i h = record {
      seen = seen_in t.table h.seen;
      linked = h.stacked.0.linked ∙ sym (names-page_seen ws);
      parents = record {
        home = at_home_above t.table (ps ∷ ups) h.home;
        headed = h.stacked.0.headed;
        tiled = h.stacked.0.tiled;
        first = sym (next_low-parents ps (placed_of ws) h.stacked.0.linked h.stacked.0.headed) ∙ h.first;
        stacked = h.stacked.1;
        root = h.root;
        far = refl;
      };
    }
