-- A proper tree is determined by its pages: the root is the one page that no other page has as a child, and the height is how far the leaves are
-- below it.
use Rattle.std.specs.Prelude.{◌≡◌, ℕ, zero, suc, pred, ◌+◌, ◌<◌, ◌⊎◌, Bool, true, false, nat_eq, ◌||◌, is_some, List, [], ◌∷◌, ◌++◌, map, flat_map, length, Option, Some, None}
use Rattle.std.proofs.Common.{refl, sym, ap, ◌∙◌, subst, arith, inl, inr}
use Rattle.std.specs.List.{AllByRecursion}
use Rattle.std.specs.Map.{keys_of, values_of}
use Rattle.std.proofs.lemmas.Bool.{eqb-true, eq-eqb}
use Rattle.std.proofs.lemmas.List.{map-append}
use Rattle.keys.specs.declared.settings.Settings.{Settings}
use Rattle.index_page.specs.Page as page
use Rattle.index_page.specs.Page.{Page, PageOfKind}
use Rattle.index_page.specs.Page.PageOfKind.{Leaf, Index}
use Rattle.mapping.specs.Tree.{Tree, page_at}
use Rattle.mapping.specs.Levels.{Placed, Levels, entries, joined, pids, all_pids, as_leaf, as_index, index_at, levels_below, levels_of, top_pid}
use Rattle.mapping.specs.FreshPids.{is_among}
use Rattle.mapping.specs.Proper.{next_low, Distinct, Stacked, HasLeaves, HasIndexPages, HoldsLevels, IsProper}
use Rattle.mapping.proofs.TileLemmas.{Separators}
use Rattle.mapping.proofs.PidLemmas.{among_either_by, among_either, among_left, among_right}
use Rattle.mapping.proofs.MetPids.{distinct_last}
use Rattle.mapping.proofs.LevelLemmas.{values_of-names}
use Rattle.mapping.proofs.TableOfLevels.{holds_among}
use Rattle.mapping.proofs.InUse.{among-lookup}

-- ---- numbers

second_by : (a b : Bool) → a ≡ false → (a || b) ≡ true → b ≡ true
second_by true b e h = absurd (cc)
second_by false b e h = h

or_false : (b : Bool) → (b || false) ≡ true → b ≡ true
or_false true h = refl
or_false false h = absurd (cc)

-- if a number is in two lists, their concatenation is not distinct
twice : (n : ℕ) (xs ys : List ℕ) → Distinct (xs ++ ys) → is_among n xs ≡ true → is_among n ys ≡ true → ⊥
twice n [] ys d h g = absurd (cc)
twice n (x ∷ xs) ys d h g =
    elim (among_either_by (nat_eq n x) (is_among n xs) h) [
      | inl e ↦ holds_among (λ m. m ≡ x → ⊥) n (xs ++ ys) d.0 (among_right n xs ys g) (eqb-true n x e)
      | inr later ↦ twice n xs ys d.1 later g
    ]

module _ (ps : List (ℕ × PageOfKind)) where
  -- the children of an index page
  abbrev children_of : Page ℕ → List ℕ
  children_of p = values_of (page.entries p)

  -- an index page of the table has this pid as a child
  record IsNamed (n : ℕ) : Type 0 where
    pid : ℕ
    up : Page ℕ
    there : page_at ps pid ≡ Some (Index up)
    child : is_among n (children_of up) ≡ true

  children_joined : (p : Placed ℕ) (qs : List (Placed ℕ)) → values_of (joined (p ∷ qs)) ≡ children_of p.page ++ values_of (joined qs)
  children_joined p qs = map-append (λ (e : List ℕ × ℕ). e.1) (entries p) (joined qs)

  -- a child of a level's pages is a child of one of them
  named_by_level : (n : ℕ) (up : List (Placed ℕ)) → HasIndexPages ps up → is_among n (values_of (joined up)) ≡ true → IsNamed n
  named_by_level n [] h g = absurd (cc)
  named_by_level n (p ∷ qs) h g =
      elim (among_either n (children_of p.page) (values_of (joined qs)) (rw (sym (children_joined p qs)) g)) [
        | inl here ↦ record { pid = p.pid; up = p.page; there = h.0; child = here }
        | inr later ↦ named_by_level n qs h.1 later
      ]

  same_index : (p q : Page ℕ) → ◌≡◌ {A = Option PageOfKind} (Some (Index p)) (Some (Index q)) → p ≡ q
  same_index p q e = cc

  here_by : (b : Bool) (n pid : ℕ) (up : Page ℕ) (p : Placed ℕ) (qs : List (Placed ℕ)) → nat_eq pid p.pid ≡ b → page_at ps p.pid ≡ Some (Index p.page) → page_at ps pid ≡ Some (Index up)
      → is_among pid (pids (p ∷ qs)) ≡ true → is_among n (children_of up) ≡ true → (is_among pid (pids qs) ≡ true → is_among n (values_of (joined qs)) ≡ true)
      → is_among n (children_of p.page ++ values_of (joined qs)) ≡ true
  here_by true n pid up p qs e h g m c later =
      let at : page_at ps pid ≡ page_at ps p.pid = ap (page_at ps) (eqb-true pid p.pid e) in
      let same : up ≡ p.page = same_index up p.page (sym g ∙ at ∙ h) in
      among_left n (children_of p.page) (values_of (joined qs)) (rw (sym same) c)
  here_by false n pid up p qs e h g m c later =
      let rest : is_among pid (pids qs) ≡ true = second_by (nat_eq pid p.pid) (is_among pid (pids qs)) e m in
      among_right n (children_of p.page) (values_of (joined qs)) (later rest)

  -- a child of one of a level's pages is a child of the level
  named_in_level : (n pid : ℕ) (up : Page ℕ) (here : List (Placed ℕ)) → HasIndexPages ps here → page_at ps pid ≡ Some (Index up) → is_among pid (pids here) ≡ true
      → is_among n (children_of up) ≡ true → is_among n (values_of (joined here)) ≡ true
  named_in_level n pid up [] h g m c = absurd (cc)
  named_in_level n pid up (p ∷ qs) h g m c =
      let whole = here_by (nat_eq pid p.pid) n pid up p qs refl h.0 g m c (λ later. named_in_level n pid up qs h.1 g later c) in
      rw (children_joined p qs) whole

  -- ---- the root

  -- each page except the top one is a child
  named_or_top : {V : Type 0} (level : List (Placed V)) (ups : List (List (Placed ℕ))) (n : ℕ) → Stacked level ups → AllByRecursion (HasIndexPages ps) ups → is_among n (all_pids level ups) ≡ true
      → (n ≡ top_pid level ups) ⊎ IsNamed n
  named_or_top [] [] n st h m = absurd (omega arith)
  named_or_top (p ∷ []) [] n st h m = inl (eqb-true n p.pid (or_false (nat_eq n p.pid) m))
  named_or_top (p ∷ q ∷ level) [] n st h m = absurd (omega arith)
  named_or_top level (up ∷ ups) n st h m =
      elim (among_either n (pids level) (all_pids up ups) m) [
        | inl here ↦ (
            let named : values_of (joined up) ≡ pids level = ap (λ (ns : Separators). values_of ns) (st.0).linked ∙ values_of-names level in
            inr (named_by_level n up h.0 (rw named here))
            )
        | inr later ↦ named_or_top up ups n st.1 h.1 later
      ]

  top_among : {V : Type 0} (level : List (Placed V)) (ups : List (List (Placed ℕ))) → Stacked level ups → is_among (top_pid level ups) (all_pids level ups) ≡ true
  top_among [] [] st = absurd (omega arith)
  top_among (p ∷ level) [] st = rw (eq-eqb p.pid p.pid refl) refl
  top_among level (up ∷ ups) st = among_right (top_pid up ups) (pids level) (all_pids up ups) (top_among up ups st.1)

  -- and the top one isn't
  top_unnamed : {V : Type 0} (level : List (Placed V)) (ups : List (List (Placed ℕ))) (pid : ℕ) (up : Page ℕ) → Stacked level ups → AllByRecursion (HasIndexPages ps) ups → Distinct (all_pids level ups)
      → page_at ps pid ≡ Some (Index up) → is_among pid (flat_map pids ups) ≡ true → is_among (top_pid level ups) (children_of up) ≡ true → ⊥
  top_unnamed level [] pid up st h d g m c = absurd (cc)
  top_unnamed level (here ∷ ups) pid up st h d g m c =
      elim (among_either pid (pids here) (flat_map pids ups) m) [
        | inl first ↦ (
            let named : values_of (joined here) ≡ pids level = ap (λ (ns : Separators). values_of ns) (st.0).linked ∙ values_of-names level in
            let below : is_among (top_pid here ups) (pids level) ≡ true = rw (sym named) (named_in_level (top_pid here ups) pid up here h.0 g first c) in
            twice (top_pid here ups) (pids level) (all_pids here ups) d below (top_among here ups st.1)
            )
        | inr later ↦ top_unnamed here ups pid up st.1 h.1 (distinct_last (pids level) (all_pids here ups) d) g later c
      ]

  -- ---- the pages of levels

  leaf_there : (n : ℕ) (level : List (Placed (List ℕ))) → HasLeaves ps level → is_among n (pids level) ≡ true → (p : Page (List ℕ)) × (page_at ps n ≡ Some (Leaf p))
  leaf_there n [] h m = absurd (cc)
  leaf_there n (p ∷ level) h m =
      elim (among_either_by (nat_eq n p.pid) (is_among n (pids level)) m) [
        | inl e ↦ (p.page, ap (page_at ps) (eqb-true n p.pid e) ∙ h.0)
        | inr later ↦ leaf_there n level h.1 later
      ]

  index_there : (n : ℕ) (up : List (Placed ℕ)) → HasIndexPages ps up → is_among n (pids up) ≡ true → (p : Page ℕ) × (page_at ps n ≡ Some (Index p))
  index_there n [] h m = absurd (cc)
  index_there n (p ∷ up) h m =
      elim (among_either_by (nat_eq n p.pid) (is_among n (pids up)) m) [
        | inl e ↦ (p.page, ap (page_at ps) (eqb-true n p.pid e) ∙ h.0)
        | inr later ↦ index_there n up h.1 later
      ]

  above_there : (n : ℕ) (ups : List (List (Placed ℕ))) → AllByRecursion (HasIndexPages ps) ups → is_among n (flat_map pids ups) ≡ true → (p : Page ℕ) × (page_at ps n ≡ Some (Index p))
  above_there n [] h m = absurd (cc)
  above_there n (up ∷ ups) h m =
      elim (among_either n (pids up) (flat_map pids ups) m) [
        | inl here ↦ index_there n up h.0 here
        | inr later ↦ above_there n ups h.1 later
      ]

  some_by : (o : Option PageOfKind) (p : PageOfKind) → o ≡ Some p → is_some o ≡ true
  some_by None p e = absurd (cc)
  some_by (Some q) p e = refl

  -- a pid of the levels is one of the table
  in_table : (l : Levels) (n : ℕ) → HoldsLevels ps l → is_among n (all_pids l.level l.above) ≡ true → is_among n (keys_of ps) ≡ true
  in_table l n h m =
      elim (among_either n (pids l.level) (flat_map pids l.above) m) [
        | inl low ↦ (let f = leaf_there n l.level h.leaves low in sym (among-lookup n ps) ∙ some_by (page_at ps n) (Leaf f.0) f.1)
        | inr high ↦ (let f = above_there n l.above h.above high in sym (among-lookup n ps) ∙ some_by (page_at ps n) (Index f.0) f.1)
      ]

  leaf_is_no_index : (p : Page (List ℕ)) (q : Page ℕ) (o : Option PageOfKind) → o ≡ Some (Leaf p) → o ≡ Some (Index q) → ⊥
  leaf_is_no_index p q o e f = let g : ◌≡◌ {A = Option PageOfKind} (Some (Leaf p)) (Some (Index q)) = sym e ∙ f in absurd (cc)

  one_top : (l k : Levels) → HoldsLevels ps l → HoldsLevels ps k → Stacked l.level l.above → Stacked k.level k.above → Distinct (all_pids k.level k.above)
      → top_pid k.level k.above ≡ top_pid l.level l.above
  one_top l k hl hk sl sk d =
      let r : ℕ = top_pid k.level k.above in
      let m : is_among r (all_pids l.level l.above) ≡ true = holds_among (λ n. is_among n (all_pids l.level l.above) ≡ true) r (keys_of ps) hl.no_other (in_table k r hk (top_among k.level k.above sk)) in
      elim (named_or_top l.level l.above r sl hl.above m) [
        | inl e ↦ e
        | inr named ↦ (
            let there : is_among named.pid (keys_of ps) ≡ true = sym (among-lookup named.pid ps) ∙ some_by (page_at ps named.pid) (Index named.up) named.there in
            let met : is_among named.pid (all_pids k.level k.above) ≡ true = holds_among (λ n. is_among n (all_pids k.level k.above) ≡ true) named.pid (keys_of ps) hk.no_other there in
            elim (among_either named.pid (pids k.level) (flat_map pids k.above) met) as (λ o. r ≡ top_pid l.level l.above) [
              | inl low ↦ absurd (let f = leaf_there named.pid k.level hk.leaves low in leaf_is_no_index f.0 named.up (page_at ps named.pid) f.1 named.there)
              | inr high ↦ absurd (top_unnamed k.level k.above named.pid named.up sk hk.above d named.there high named.child)
            ]
            )
      ]

  top_stays : (n : ℕ) (level : List ℕ) (u : List (Placed ℕ)) (us : List (List (Placed ℕ))) → top_pid (levels_below ps n level (u ∷ us)).level (levels_below ps n level (u ∷ us)).above ≡ top_pid u us
  top_stays zero level u us = refl
  top_stays (suc n) level u us = top_stays n (values_of (joined (map (index_at ps) level))) (map (index_at ps) level) (u ∷ us)

  pub root_on_top : (n root : ℕ) → top_pid (levels_below ps n (root ∷ []) []).level (levels_below ps n (root ∷ []) []).above ≡ root
  root_on_top zero root = refl
  root_on_top (suc n) root = top_stays n (values_of (joined (map (index_at ps) (root ∷ [])))) (map (index_at ps) (root ∷ [])) []

  -- ---- the height

  above_kept : (n : ℕ) (level : List ℕ) (above : List (List (Placed ℕ))) → AllByRecursion (HasIndexPages ps) (levels_below ps n level above).above → AllByRecursion (HasIndexPages ps) above
  above_kept zero level above h = h
  above_kept (suc n) level above h = (above_kept n (values_of (joined (map (index_at ps) level))) (map (index_at ps) level ∷ above) h).1

  -- the leaves under a root aren't index pages, which they would be with more levels below
  no_deeper : (n m : ℕ) (level : List ℕ) (one other : List (List (Placed ℕ))) → HasLeaves ps (levels_below ps n level one).level → 0 < length (levels_below ps n level one).level
      → AllByRecursion (HasIndexPages ps) (levels_below ps (n + suc m) level other).above → ⊥
  no_deeper zero m [] one other h g i = omega arith
  no_deeper zero m (pid ∷ level) one other h g i =
      let z : 0 + suc m ≡ suc m = omega arith in
      let above : AllByRecursion (HasIndexPages ps) (levels_below ps (suc m) (pid ∷ level) other).above = subst (λ (k : ℕ). AllByRecursion (HasIndexPages ps) (levels_below ps k (pid ∷ level) other).above) z i in
      let up = above_kept m (values_of (joined (map (index_at ps) (pid ∷ level)))) (map (index_at ps) (pid ∷ level) ∷ other) above in
      leaf_is_no_index (as_leaf (page_at ps pid)) (as_index (page_at ps pid)) (page_at ps pid) h.0 (up.0).0
  no_deeper (suc n) m level one other h g i =
      let here : List (Placed ℕ) = map (index_at ps) level in
      let z : suc n + suc m ≡ suc (n + suc m) = omega arith in
      no_deeper n m (values_of (joined here)) (here ∷ one) (here ∷ other) h g (subst (λ (k : ℕ). AllByRecursion (HasIndexPages ps) (levels_below ps k level other).above) z i)

some_level : (ps : List (Placed (List ℕ))) → next_low ps None ≡ Some [] → 0 < length ps
some_level [] h = absurd (cc)
some_level (p ∷ ps) h = omega arith

as_high : (t u : Tree) (k : ℕ) (s : Settings) → IsProper s t → IsProper s u → t.pages ≡ u.pages → t.root ≡ u.root → pred u.height ≡ pred t.height + suc k → ⊥
as_high t u k s p q e r h =
    let below : List (ℕ × PageOfKind) → ℕ → ℕ → Levels = λ ps n root. levels_below ps n (root ∷ []) [] in
    let deep : levels_of u ≡ below t.pages (pred t.height + suc k) t.root =
    ap (λ (n : ℕ). below u.pages n u.root) h ∙ ap (λ (ps : List (ℕ × PageOfKind)). below ps (pred t.height + suc k) u.root) (sym e) ∙ ap (below t.pages (pred t.height + suc k)) (sym r)
    in
    let has : AllByRecursion (HasIndexPages t.pages) (levels_of u).above = subst (λ (ps : List (ℕ × PageOfKind)). AllByRecursion (HasIndexPages ps) (levels_of u).above) (sym e) q.held.above in
    no_deeper t.pages (pred t.height) k (t.root ∷ []) [] [] p.held.leaves (some_level (levels_of t).level p.levels.first)
    (subst (λ (l : Levels). AllByRecursion (HasIndexPages t.pages) l.above) deep has)

height_by : (t u : Tree) (s : Settings) (m n : ℕ) → IsProper s t → IsProper s u → t.pages ≡ u.pages → t.root ≡ u.root → pred t.height ≡ m → pred u.height ≡ n → m ≡ n
height_by t u s m n p q e r h g = elim (apart m n) [
  | inl same ↦ same
  | inr (inl k) ↦ absurd (as_high t u k.0 s p q e r (g ∙ k.1 ∙ ap (λ (x : ℕ). x + suc k.0) (sym h)))
  | inr (inr k) ↦ absurd (as_high u t k.0 s q p (sym e) (sym r) (h ∙ k.1 ∙ ap (λ (x : ℕ). x + suc k.0) (sym g)))
]
  where
    apart : (m n : ℕ) → (m ≡ n) ⊎ (((k : ℕ) × (n ≡ m + suc k)) ⊎ ((k : ℕ) × (m ≡ n + suc k)))
    apart zero zero = inl refl
    apart zero (suc n) = inr (inl (n, omega arith))
    apart (suc m) zero = inr (inr (m, omega arith))
    apart (suc m) (suc n) = elim (apart m n) [
      | inl e ↦ inl (ap suc e)
      | inr (inl k) ↦ inr (inl (k.0, (let e = k.1 in omega arith)))
      | inr (inr k) ↦ inr (inr (k.0, (let e = k.1 in omega arith)))
    ]

pred_same : (m n : ℕ) → 0 < m → 0 < n → pred m ≡ pred n → m ≡ n
pred_same zero n h g e = absurd (omega arith)
pred_same (suc m) zero h g e = absurd (omega arith)
pred_same (suc m) (suc n) h g e = ap suc e

pub same_tree : (s : Settings) (t u : Tree) → IsProper s t → IsProper s u → t.pages ≡ u.pages → (t.root ≡ u.root) × (t.height ≡ u.height)
same_tree s t u p q e =
    let held : HoldsLevels t.pages (levels_of u) = subst (λ (ps : List (ℕ × PageOfKind)). HoldsLevels ps (levels_of u)) (sym e) q.held in
    let top = one_top t.pages (levels_of t) (levels_of u) p.held held p.levels.stacked q.levels.stacked q.levels.distinct in
    let r : t.root ≡ u.root = sym (root_on_top t.pages (pred t.height) t.root) ∙ sym top ∙ root_on_top u.pages (pred u.height) u.root in
    (r, pred_same t.height u.height p.tree.some q.tree.some (height_by t u s (pred t.height) (pred u.height) p q e r refl refl))
