-- The new pages that the code makes of groups of either kind are those of the plan.
use Rattle.std.specs.Prelude.{◌≡◌, ℕ, suc, ◌+◌, ◌-◌, ◌<◌, Bool, true, false, List, [], ◌∷◌, ◌++◌, map, drop, length}
use Rattle.std.proofs.Common.{refl, sym, ap, ◌∙◌, subst, arith, length-append, length-drop}
use Rattle.std.specs.List.{AllByRecursion, range_with_len}
use Rattle.std.proofs.lemmas.List.{length-map}
use Rattle.keys.specs.Order.{IsRising}
use Rattle.keys.specs.declared.settings.Settings.{Settings}
use Rattle.index_page.specs.Page as page
use Rattle.index_page.specs.Page.{Page, PageOfKind, bare, first_key, IsLeaf, IsIndex, leaf_of, index_of}
use Rattle.index_page.specs.Page.PageOfKind.{Leaf, Index}
use Rattle.mapping.specs.Levels.{Placed, joined, pids}
use Rattle.mapping.specs.FreshPids.{unused}
use Rattle.page_runs.specs.Updated.{Updated}
use Rattle.split_plan.specs.Change.{fresh_pages, replacements, is_rewritten, remade, changes, fresh_of}
use Rattle.split_plan.proofs.ChangeLemmas.{remade_by, length-fresh_pages}
use Rattle.split_plan.specs.Cut.{cut}
use Rattle.split_plan.proofs.CutLemmas.{cut_some}
use Rattle.split_plan.specs.Pieces.{pages_from, joined_pages, pages_made, group_made}
use Rattle.split_plan.specs.UpdatedLevel.{placed_of}
use Rattle.climb_plan.specs.Changing.{page_seen}
use Rattle.climb_plan.specs.Level.{IsKind, remade_of}
use Rattle.climb_plan.specs.Rewriting.{Remade, cut_group, HaveSome, with_numbers, numbers}
use Rattle.climb_plan.proofs.BridgeSeen.{shown_groups}

-- ---- pages of pieces

module _ {V : Type 0} where
  -- the pages under their pids
  abbrev pub bare_pages : List (Placed V) → List (Page V)
  bare_pages ps = map (λ p. p.page) ps

  pages-fresh_pages : (used : List ℕ) (i : ℕ) (bs : List (List (List ℕ × V))) → bare_pages (fresh_pages used i bs) ≡ map (λ c. bare (first_key c) c) bs
  pages-fresh_pages used i [] = refl
  pages-fresh_pages used i (b ∷ bs) = ap (λ (ps : List (Page V)). bare (first_key b) b ∷ ps) (pages-fresh_pages used (suc i) bs)

  pub pages-replacements : (used : List ℕ) (i : ℕ) (p : Placed V) (bs : List (List (List ℕ × V))) → bare_pages (replacements used i p bs) ≡ pages_from p.page.low bs
  pages-replacements used i p [] = refl
  pages-replacements used i p (b ∷ bs) = ap (λ (ps : List (Page V)). bare p.page.low b ∷ ps) (pages-fresh_pages used i bs)

  pub pids-fresh_pages : (used : List ℕ) (i : ℕ) (bs : List (List (List ℕ × V))) → pids (fresh_pages used i bs) ≡ map (unused used) (range_with_len i (length bs))
  pids-fresh_pages used i [] = refl
  pids-fresh_pages used i (b ∷ bs) =
      let next : suc i ≡ i + 1 = omega arith in
      ap (λ (ns : List ℕ). unused used i ∷ ns) (pids-fresh_pages used (suc i) bs ∙ ap (λ (j : ℕ). map (unused used) (range_with_len j (length bs))) next)

  pub pids-replacements : (used : List ℕ) (i : ℕ) (p : Placed V) (bs : List (List (List ℕ × V))) → pids (drop 1 (replacements used i p bs)) ≡ map (unused used) (range_with_len i (length (drop 1 (replacements used i p bs))))
  pids-replacements used i p [] = refl
  pids-replacements used i p (b ∷ bs) =
      pids-fresh_pages used i bs ∙ ap (λ (n : ℕ). map (unused used) (range_with_len i n)) (sym (length-fresh_pages used i bs))

  pub joined-bare_pages : (ps : List (Placed V)) → joined_pages (bare_pages ps) ≡ joined ps
  joined-bare_pages [] = refl
  joined-bare_pages (p ∷ ps) = ap (λ (es : List (List ℕ × V)). page.entries p.page ++ es) (joined-bare_pages ps)

  some_replacement : (used : List ℕ) (i : ℕ) (p : Placed V) (bs : List (List (List ℕ × V))) → 0 < length bs → 0 < length (replacements used i p bs)
  some_replacement used i p [] h = absurd (omega arith)
  some_replacement used i p (b ∷ bs) h = omega arith

-- ---- groups

abbrev made_of : List ℕ → List PageOfKind → List ℕ → Remade
made_of ms ps ns = record { members = ms; pieces = ps; fresh = ns }

module _ {V : Type 0} where
  -- groups that are rewritten
  abbrev pub AreRewritten : List (List (Updated V)) → Type 0
  AreRewritten gs = AllByRecursion (λ g. is_rewritten g ≡ true) gs

  -- the pages of a group's members
  abbrev pub pages_of_group : List (Updated V) → List (Page V)
  pages_of_group g = bare_pages (placed_of g)

module _ {V : Type 0} (of : Page V → PageOfKind) where
  pub pages-page_seen : (g : List (Updated V)) → map (λ x. x.page) (map (page_seen of) g) ≡ map of (pages_of_group g)
  pages-page_seen [] = refl
  pages-page_seen (w ∷ ws) = ap (λ (ps : List PageOfKind). of w.placed.page ∷ ps) (pages-page_seen ws)

  pids-page_seen : (g : List (Updated V)) → map (λ x. x.pid) (map (page_seen of) g) ≡ map (λ w. w.placed.pid) g
  pids-page_seen [] = refl
  pids-page_seen (w ∷ ws) = ap (λ (ns : List ℕ). w.placed.pid ∷ ns) (pids-page_seen ws)

  -- the pages of a change, of their kind
  abbrev pub kept_pages : List (Placed V) → List PageOfKind
  kept_pages qs = map (λ q. of q.page) qs

  of_bare_pages : (qs : List (Placed V)) → map of (bare_pages qs) ≡ kept_pages qs
  of_bare_pages [] = refl
  of_bare_pages (q ∷ qs) = ap (λ (ps : List PageOfKind). of q.page ∷ ps) (of_bare_pages qs)

  one_less : (qs : List (Placed V)) (ps : List PageOfKind) → ps ≡ kept_pages qs → length ps - 1 ≡ length (drop 1 qs)
  one_less qs ps e = ap (λ (rs : List PageOfKind). length rs - 1) e ∙ ap (λ (n : ℕ). n - 1) (length-map qs (λ (q : Placed V). of q.page)) ∙ sym (length-drop 1 qs)

  module _ (kind : IsKind of) (s : Settings) where
    -- the pieces of a group that is rewritten
    abbrev pub pieces_made : List (Updated V) → List PageOfKind
    pieces_made g = group_made s (map (λ x. x.page) (map (page_seen of) g))

    pieces_by : (b : Bool) (used : List ℕ) (i : ℕ) (w : Updated V) (ws : List (Updated V)) → b ≡ true → pieces_made (w ∷ ws) ≡ kept_pages (remade_by b s used i w ws)
    pieces_by false used i w ws e = absurd (cc)
    pieces_by true used i w ws e =
        let g : List (Updated V) = w ∷ ws in
        let bs : List (List (List ℕ × V)) = cut s.fan (joined (placed_of g)) in
        ap (λ (ps : List PageOfKind). group_made s (of w.placed.page ∷ ps)) (pages-page_seen ws)
        ∙ kind.made s w.placed.page (pages_of_group ws)
        ∙ ap (λ (es : List (List ℕ × V)). map of (pages_from w.placed.page.low (cut s.fan es))) (joined-bare_pages (placed_of g))
        ∙ ap (λ (ps : List (Page V)). map of ps) (sym (pages-replacements used i w.placed bs))
        ∙ of_bare_pages (replacements used i w.placed bs)

    -- they are the pages that replace the group
    pub pieces_here : (used : List ℕ) (i : ℕ) (g : List (Updated V)) → is_rewritten g ≡ true → pieces_made g ≡ kept_pages (remade s used i g)
    pieces_here used i [] e = absurd (cc)
    pieces_here used i (w ∷ ws) e = pieces_by (is_rewritten (w ∷ ws)) used i w ws e

    count_here : (used : List ℕ) (i : ℕ) (g : List (Updated V)) → is_rewritten g ≡ true → length (pieces_made g) - 1 ≡ length (drop 1 (remade s used i g))
    count_here used i g e = one_less (remade s used i g) (pieces_made g) (pieces_here used i g e)

    fresh_by : (b : Bool) (used : List ℕ) (i : ℕ) (w : Updated V) (ws : List (Updated V)) → b ≡ true → map (unused used) (range_with_len i (length (drop 1 (remade_by b s used i w ws)))) ≡ pids (drop 1 (remade_by b s used i w ws))
    fresh_by false used i w ws e = absurd (cc)
    fresh_by true used i w ws e = sym (pids-replacements used i w.placed (cut s.fan (joined (placed_of (w ∷ ws)))))

    fresh_here : (used : List ℕ) (i : ℕ) (g : List (Updated V)) → is_rewritten g ≡ true → map (unused used) (range_with_len i (length (drop 1 (remade s used i g)))) ≡ pids (drop 1 (remade s used i g))
    fresh_here used i [] e = absurd (cc)
    fresh_here used i (w ∷ ws) e = fresh_by (is_rewritten (w ∷ ws)) used i w ws e

    -- groups, cut and with numbers for their new pieces, are the changes
    pub with_numbers-page_seen : (used : List ℕ) (i : ℕ) (gs : List (List (Updated V))) → AreRewritten gs → with_numbers used i (map (cut_group s) (shown_groups of gs)) ≡ map (remade_of of) (changes s used i gs)
    with_numbers-page_seen used i [] h = refl
    with_numbers-page_seen used i (g ∷ gs) h =
        let n : ℕ = length (pieces_made g) - 1 in
        let new : List (Placed V) = remade s used i g in
        let count : n ≡ length (drop 1 new) = count_here used i g h.0 in
        let fresh : map (unused used) (range_with_len i n) ≡ pids (drop 1 new) = ap (λ (m : ℕ). map (unused used) (range_with_len i m)) count ∙ fresh_here used i g h.0 in
        let members : map (λ x. x.pid) (map (page_seen of) g) ≡ map (λ w. w.placed.pid) g = pids-page_seen g in
        let later : ℕ → List Remade = λ j. with_numbers used j (map (cut_group s) (shown_groups of gs)) in
        ap (λ (ms : List ℕ). made_of ms (pieces_made g) (map (unused used) (range_with_len i n)) ∷ later (i + n)) members
        ∙ ap (λ (ps : List PageOfKind). made_of (map (λ w. w.placed.pid) g) ps (map (unused used) (range_with_len i n)) ∷ later (i + n)) (pieces_here used i g h.0)
        ∙ ap (λ (ns : List ℕ). made_of (map (λ w. w.placed.pid) g) (kept_pages new) ns ∷ later (i + n)) fresh
        ∙ ap (λ (m : ℕ). made_of (map (λ w. w.placed.pid) g) (kept_pages new) (pids (drop 1 new)) ∷ later (i + m)) count
        ∙ ap (λ (rs : List Remade). made_of (map (λ w. w.placed.pid) g) (kept_pages new) (pids (drop 1 new)) ∷ rs) (with_numbers-page_seen used (i + length (drop 1 new)) gs h.1)

    -- as many numbers are needed as there are new pieces
    pub numbers-page_seen : (used : List ℕ) (i : ℕ) (gs : List (List (Updated V))) → AreRewritten gs → numbers (map (cut_group s) (shown_groups of gs)) ≡ length (fresh_of (changes s used i gs))
    numbers-page_seen used i [] h = refl
    numbers-page_seen used i (g ∷ gs) h =
        let here : List (Placed V) = drop 1 (remade s used i g) in
        let j : ℕ = i + length here in
        ap (λ (n : ℕ). n + numbers (map (cut_group s) (shown_groups of gs))) (count_here used i g h.0)
        ∙ ap (λ (n : ℕ). length here + n) (numbers-page_seen used j gs h.1)
        ∙ sym (length-append here (fresh_of (changes s used j gs)))

    some_by : (b : Bool) (w : Updated V) (ws : List (Updated V)) → b ≡ true → 0 < length (remade_by b s [] 0 w ws)
    some_by false w ws e = absurd (cc)
    some_by true w ws e = let es : List (List ℕ × V) = joined (placed_of (w ∷ ws)) in some_replacement [] 0 w.placed (cut s.fan es) (cut_some s.fan es)

    some_remade : (g : List (Updated V)) → is_rewritten g ≡ true → 0 < length (remade s [] 0 g)
    some_remade [] e = absurd (cc)
    some_remade (w ∷ ws) e = some_by (is_rewritten (w ∷ ws)) w ws e

    some_piece : (g : List (Updated V)) → is_rewritten g ≡ true → 0 < length (pieces_made g)
    some_piece g e =
        let count : length (pieces_made g) ≡ length (remade s [] 0 g) = ap (λ (ps : List PageOfKind). length ps) (pieces_here [] 0 g e) ∙ length-map (remade s [] 0 g) (λ (q : Placed V). of q.page) in
        subst (λ (n : ℕ). 0 < n) (sym count) (some_remade g e)

    -- each group has a piece
    pub some-page_seen : (gs : List (List (Updated V))) → AreRewritten gs → HaveSome (map (cut_group s) (shown_groups of gs))
    some-page_seen [] h = tt
    some-page_seen (g ∷ gs) h = (some_piece g h.0, some-page_seen gs h.1)

-- ---- the kinds

leaves_back : (ps : List (Page (List ℕ))) → map leaf_of (map Leaf ps) ≡ ps
leaves_back [] = refl
leaves_back (p ∷ ps) = ap (λ (qs : List (Page (List ℕ))). p ∷ qs) (leaves_back ps)

all_leaves : (ps : List (Page (List ℕ))) → AllByRecursion IsLeaf (map Leaf ps)
all_leaves [] = tt
all_leaves (p ∷ ps) = (tt, all_leaves ps)

-- leaves are a kind
pub leaves_are_kind : IsKind Leaf
leaves_are_kind = record {
  low = λ p. refl;
  made = λ s p ps. ap (λ (qs : List (Page (List ℕ))). map Leaf (pages_made s (p ∷ qs))) (leaves_back ps);
  join = λ p ps r. (all_leaves ps, subst (λ (qs : List (Page (List ℕ))). IsRising (joined_pages (p ∷ qs))) (sym (leaves_back ps)) r);
}

index_pages_back : (ps : List (Page ℕ)) → map index_of (map Index ps) ≡ ps
index_pages_back [] = refl
index_pages_back (p ∷ ps) = ap (λ (qs : List (Page ℕ)). p ∷ qs) (index_pages_back ps)

all_index_pages : (ps : List (Page ℕ)) → AllByRecursion IsIndex (map Index ps)
all_index_pages [] = tt
all_index_pages (p ∷ ps) = (tt, all_index_pages ps)

-- and so are index pages
pub index_pages_are_kind : IsKind Index
index_pages_are_kind = record {
  low = λ p. refl;
  made = λ s p ps. ap (λ (qs : List (Page ℕ)). map Index (pages_made s (p ∷ qs))) (index_pages_back ps);
  join = λ p ps r. (all_index_pages ps, subst (λ (qs : List (Page ℕ)). IsRising (joined_pages (p ∷ qs))) (sym (index_pages_back ps)) r);
}
