-- Lemmas on the pages of a tree and the leaves below each page, which tile the page's range of keys.
use Rattle.std.specs.Prelude.{◌≡◌, ℕ, zero, suc, pred, ◌+◌, ◌<◌, List, [], ◌∷◌, ◌++◌, map, length, Option, Some, None}
use Rattle.std.proofs.Common.{refl, sym, ap, ◌∙◌, subst, arith}
use Rattle.std.specs.List.{AllByRecursion}
use Rattle.std.specs.Map.{values_of}
use Rattle.std.proofs.lemmas.List.{map-append}
use Rattle.std.proofs.lemmas.Grind.{flat_map-append}
use Rattle.keys.specs.Order.{IsRising}
use Rattle.delta_chain.specs.Layers.{entries_of}
use Rattle.index_page.specs.Page as page
use Rattle.index_page.specs.Page.{Page, PageOfKind, first_key}
use Rattle.index_page.specs.Page.PageOfKind.{Leaf, Index}
use Rattle.index_page.specs.Rules.{IsHeaded}
use Rattle.index_page.specs.Children.{Place, children}
use Rattle.index_page.proofs.ListLemmas.{all_apart}
use Rattle.index_page.proofs.ChildLemmas.{next_key, place_of, children-cons, children-append}
use Rattle.mapping.specs.Tree.{Tree, page_at}
use Rattle.mapping.specs.Levels.{Placed, Levels, entries, joined, name, names, as_leaf, as_index, leaf_at, index_at, levels_below, levels_of, contents, first_pid, top_pid}
use Rattle.mapping.specs.Proper.{next_low, IsTile, Tiled, Stacked, AreLevels, HasLeaves, HasIndexPages, HoldsLevels}
use Rattle.mapping.proofs.TileLemmas.{next_low-append, tiled-append, next_names, rising-joined, rising-tile, next_low-parents, Separators}
use Rattle.mapping.proofs.Joined.{next_joined}
use Rattle.scan.specs.Path.{entries_at, leaves_under, leaf_under, leaf_pages, pairs, IsKnown}
use Rattle.scan.proofs.PathLemmas.{leaves_under-append, leaves_under-one, leaf_pages-append, under-none}

module _ (ps : List (ℕ × PageOfKind)) where
  -- ---- the leaves below pages

  abbrev pub leaves : ℕ → List ℕ → List (Placed (List ℕ))
  leaves n pids = map (leaf_at ps) (leaves_under ps n pids)

  pub joined-leaves : (pids : List ℕ) → joined (map (leaf_at ps) pids) ≡ pairs (leaf_pages ps pids)
  joined-leaves [] = refl
  joined-leaves (pid ∷ pids) = ap (λ (x : List (List ℕ × List ℕ)). page.entries (leaf_under ps pid) ++ x) (joined-leaves pids)

  leaves-append : (n : ℕ) (xs ys : List ℕ) → leaves n (xs ++ ys) ≡ leaves n xs ++ leaves n ys
  leaves-append n xs ys =
      ap (λ (x : List ℕ). map (leaf_at ps) x) (leaves_under-append ps n xs ys) ∙ map-append (leaf_at ps) (leaves_under ps n xs) (leaves_under ps n ys)

  -- a page n levels above the leaves: the leaves below it tile its range, and the same holds for each of its children
  abbrev pub IsSubtree : ℕ → Place → Type 0
  IsSubtree zero at =
      (page_at ps at.pid ≡ Some (Leaf (as_leaf (page_at ps at.pid)))) × Tiled (leaves zero (at.pid ∷ [])) at.end × ((x : Option (List ℕ)) → next_low (leaves zero (at.pid ∷ [])) x ≡ Some at.low)
  IsSubtree (suc n) at =
      (page_at ps at.pid ≡ Some (Index (as_index (page_at ps at.pid)))) × Tiled (leaves (suc n) (at.pid ∷ [])) at.end × ((x : Option (List ℕ)) → next_low (leaves (suc n) (at.pid ∷ [])) x ≡ Some at.low)
      × IsRising (entries_at ps at.pid) × (0 < length (entries_at ps at.pid)) × AllByRecursion (IsSubtree n) (children (entries_at ps at.pid) at.end)

  pub tiled_below : (n : ℕ) (at : Place) → IsSubtree n at → Tiled (leaves n (at.pid ∷ [])) at.end
  tiled_below zero at s = s.1
  tiled_below (suc n) at s = s.1

  pub begins_below : (n : ℕ) (at : Place) → IsSubtree n at → (x : Option (List ℕ)) → next_low (leaves n (at.pid ∷ [])) x ≡ Some at.low
  begins_below zero at s = s.2
  begins_below (suc n) at s = s.2

  known_children : (n : ℕ) (es : Separators) (end : Option (List ℕ)) → ((at : Place) → IsSubtree n at → IsKnown ps n at.pid) → AllByRecursion (IsSubtree n) (children es end) → AllByRecursion (IsKnown ps n) (values_of es)
  known_children n [] end f a = tt
  known_children n (e ∷ es) end f a =
      let b = subst (λ (ats : List Place). AllByRecursion (IsSubtree n) ats) (children-cons e es end) a in
      (f (place_of e (next_key es end)) b.0, known_children n es end f b.1)

  pub is_known : (n : ℕ) (at : Place) → IsSubtree n at → IsKnown ps n at.pid
  is_known zero at s = s.0
  is_known (suc n) at s = (s.0, s.3, s.4, known_children n (entries_at ps at.pid) at.end (λ at s. is_known n at s) s.5)

  -- the leaves below children tile the children's range, and begin where the first child begins
  pub record AreTiles (n : ℕ) (es : Separators) (end : Option (List ℕ)) : Type 0 where
    pub tiled : Tiled (leaves n (values_of es)) end
    pub begins : (x : Option (List ℕ)) → next_low (leaves n (values_of es)) x ≡ next_key es x

  no_tiles : (n : ℕ) (end : Option (List ℕ)) → AreTiles n [] end
  no_tiles n end =
      let none : leaves n [] ≡ [] = ap (λ (x : List ℕ). map (leaf_at ps) x) (under-none ps n) in
      record {
        tiled = subst (λ (ls : List (Placed (List ℕ))). Tiled ls end) (sym none) tt;
        begins = λ x. ap (λ (ls : List (Placed (List ℕ))). next_low ls x) none;
      }

  pub tiles : (n : ℕ) (es : Separators) (end : Option (List ℕ)) → AllByRecursion (IsSubtree n) (children es end) → AreTiles n es end
  tiles n [] end a = no_tiles n end
  tiles n (e ∷ es) end a =
      let b = subst (λ (ats : List Place). AllByRecursion (IsSubtree n) ats) (children-cons e es end) a in
      let rest = tiles n es end b.1 in
      let one : List (Placed (List ℕ)) = leaves n (e.1 ∷ []) in
      let more : List (Placed (List ℕ)) = leaves n (values_of es) in
      let whole : leaves n (values_of (e ∷ es)) ≡ one ++ more = leaves-append n (e.1 ∷ []) (values_of es) in
      let first : Tiled one (next_low more end) = subst (λ (x : Option (List ℕ)). Tiled one x) (sym (rest.begins end)) (tiled_below n (place_of e (next_key es end)) b.0) in
      record {
        tiled = subst (λ (ls : List (Placed (List ℕ))). Tiled ls end) (sym whole) (tiled-append one more end first rest.tiled);
        begins = λ x. ap (λ (ls : List (Placed (List ℕ))). next_low ls x) whole ∙ next_low-append one more x ∙ begins_below n (place_of e (next_key es end)) b.0 (next_low more x);
      }

  -- ---- the levels of a tree, from the leaves up

  pub leaf_subtrees : (level : List (Placed (List ℕ))) (end : Option (List ℕ)) → HasLeaves ps level → Tiled level end → AllByRecursion (IsSubtree zero) (children (names level) end)
  leaf_subtrees [] end h t = tt
  leaf_subtrees (p ∷ level) end h t =
      let next : Option (List ℕ) = next_key (names level) end in
      let page : as_leaf (page_at ps p.pid) ≡ p.page = ap (λ (o : Option PageOfKind). as_leaf o) h.0 in
      let placed : Page (List ℕ) → Placed (List ℕ) = λ q. record { pid = p.pid; page = q } in
      let same : leaf_at ps p.pid ≡ p = ap (λ (q : Page (List ℕ)). placed q) page in
      let here : IsSubtree zero (place_of (name p) next) = (
        h.0 ∙ ap (λ (q : Page (List ℕ)). Some (Leaf q)) (sym page),
        (subst (λ (l : Placed (List ℕ)). IsTile next l) (sym same) (subst (λ (x : Option (List ℕ)). IsTile x p) (sym (next_names level end)) t.0), tt),
        λ x. ap (λ (q : Page (List ℕ)). Some q.low) page,
      ) in
      subst (λ (ats : List Place). AllByRecursion (IsSubtree zero) ats) (sym (children-cons (name p) (names level) end)) (here, leaf_subtrees level end h.1 t.1)

  first_next : (es : Separators) (low : List ℕ) (x : Option (List ℕ)) → 0 < length es → first_key es ≡ low → next_key es x ≡ Some low
  first_next [] low x n e = absurd (omega arith)
  first_next (e ∷ es) low x n f = ap (λ (k : List ℕ). Some k) f

  index_subtree : (n : ℕ) (u : Placed ℕ) (end : Option (List ℕ)) → page_at ps u.pid ≡ Some (Index u.page) → IsHeaded 1 u.page → IsRising (entries u) → AllByRecursion (IsSubtree n) (children (entries u) end) → IsSubtree (suc n) (place_of (name u) end)
  index_subtree n u end h d r a =
      let page : as_index (page_at ps u.pid) ≡ u.page = ap (λ (o : Option PageOfKind). as_index o) h in
      let es : entries_at ps u.pid ≡ entries u = ap (λ (q : Page ℕ). entries_of q.layers) page in
      let t = tiles n (entries u) end a in
      let own : leaves (suc n) (u.pid ∷ []) ≡ leaves n (values_of (entries u)) =
      ap (λ (x : List ℕ). map (leaf_at ps) x) (leaves_under-one ps n u.pid) ∙ ap (λ (x : Separators). leaves n (values_of x)) es in
      let some = d.some in (
        h ∙ ap (λ (q : Page ℕ). Some (Index q)) (sym page),
        subst (λ (ls : List (Placed (List ℕ))). Tiled ls end) (sym own) t.tiled,
        λ x. ap (λ (ls : List (Placed (List ℕ))). next_low ls x) own ∙ t.begins x ∙ first_next (entries u) u.page.low x (omega (arith, some)) d.first,
        subst (λ (x : Separators). IsRising x) (sym es) r,
        subst (λ (x : Separators). 0 < length x) (sym es) (omega (arith, some)),
        subst (λ (x : Separators). AllByRecursion (IsSubtree n) (children x end)) (sym es) a,
      )

  pub index_subtrees : (n : ℕ) (up : List (Placed ℕ)) (end : Option (List ℕ)) → HasIndexPages ps up → AllByRecursion (λ u. IsHeaded 1 u.page) up → Tiled up end
      → AllByRecursion (IsSubtree n) (children (joined up) end) → AllByRecursion (IsSubtree (suc n)) (children (names up) end)
  index_subtrees n [] end h d t a = tt
  index_subtrees n (u ∷ up) end h d t a =
      let next : Option (List ℕ) = next_key (names up) end in
      let b = all_apart (IsSubtree n) (children (entries u) (next_key (joined up) end)) (children (joined up) end)
      (subst (λ (ats : List Place). AllByRecursion (IsSubtree n) ats) (children-append (entries u) (joined up) end) a) in
      let ends : next_key (joined up) end ≡ next = next_joined up end d.1 ∙ sym (next_names up end) in
      let own = subst (λ (x : Option (List ℕ)). AllByRecursion (IsSubtree n) (children (entries u) x)) ends b.0 in
      let here = index_subtree n u next h.0 d.0 (rising-tile (next_low up end) u t.0) own in
      subst (λ (ats : List Place). AllByRecursion (IsSubtree (suc n)) ats) (sym (children-cons (name u) (names up) end)) (here, index_subtrees n up end h.1 d.1 t.1 b.1)

  abbrev pub root_place : ℕ → Place
  root_place pid = record { pid = pid; low = []; end = None }

  one_root : {V : Type 0} (n k : ℕ) (level : List (Placed V)) → length level ≡ 1 → next_low level None ≡ Some [] → k ≡ n → AllByRecursion (IsSubtree n) (children (names level) None) → IsSubtree k (root_place (first_pid level))
  one_root n k [] l f e a = absurd (omega arith)
  one_root n k (p ∷ []) l f e a =
      let low : p.page.low ≡ [] = cc in
      let at : List ℕ → Place = λ j. record { pid = p.pid; low = j; end = None } in
      subst (λ (j : ℕ). IsSubtree j (root_place p.pid)) (sym e) (subst (λ (j : List ℕ). IsSubtree n (at j)) low a.0)
  one_root n k (p ∷ q ∷ ps) l f e a = absurd (omega arith)

  -- up to the root
  pub root_subtree : {V : Type 0} (n k : ℕ) (level : List (Placed V)) (ups : List (List (Placed ℕ))) → Stacked level ups → AllByRecursion (HasIndexPages ps) ups → next_low level None ≡ Some [] → k ≡ n + length ups
      → AllByRecursion (IsSubtree n) (children (names level) None) → IsSubtree k (root_place (top_pid level ups))
  root_subtree n k level [] o h f e a = one_root n k level o f (omega (arith, e)) a
  root_subtree n k level (up ∷ ups) o h f e a =
      let above : next_low up None ≡ Some [] = sym (next_low-parents up level o.0.linked o.0.headed) ∙ f in
      let b = index_subtrees n up None h.0 o.0.headed o.0.tiled (subst (λ (ns : Separators). AllByRecursion (IsSubtree n) (children ns None)) (sym o.0.linked) a) in
      root_subtree (suc n) k up ups o.1 h.1 above (omega (arith, e)) b

  -- ---- the root and the height of the levels of a tree

  same_top : (level : List ℕ) (above : List (List (Placed ℕ))) → top_pid (map (index_at ps) level) above ≡ top_pid (map (leaf_at ps) level) above
  same_top [] [] = refl
  same_top (n ∷ ns) [] = refl
  same_top ns (up ∷ ups) = refl

  top-below : (n : ℕ) (level : List ℕ) (above : List (List (Placed ℕ))) → (let l : Levels = levels_below ps n level above in top_pid l.level l.above ≡ top_pid (map (leaf_at ps) level) above)
  top-below zero level above = refl
  top-below (suc n) level above =
      let here : List (Placed ℕ) = map (index_at ps) level in
      top-below n (values_of (joined here)) (here ∷ above) ∙ same_top level above

  height-below : (n : ℕ) (level : List ℕ) (above : List (List (Placed ℕ))) → (let l : Levels = levels_below ps n level above in length l.above ≡ n + length above)
  height-below zero level above = omega arith
  height-below (suc n) level above =
      let here : List (Placed ℕ) = map (index_at ps) level in
      let e = height-below n (values_of (joined here)) (here ∷ above) in
      e ∙ omega arith

  pub leaves-below : (n : ℕ) (level : List ℕ) (above : List (List (Placed ℕ))) → (let l : Levels = levels_below ps n level above in l.level ≡ leaves n level)
  leaves-below zero level above = refl
  leaves-below (suc n) level above = let here : List (Placed ℕ) = map (index_at ps) level in leaves-below n (values_of (joined here)) (here ∷ above)

  pub pairs-append : (xs ys : List ℕ) → pairs (leaf_pages ps (xs ++ ys)) ≡ pairs (leaf_pages ps xs) ++ pairs (leaf_pages ps ys)
  pairs-append xs ys = ap (λ (x : List (Page (List ℕ))). pairs x) (leaf_pages-append ps xs ys) ∙ flat_map-append page.entries (leaf_pages ps xs) (leaf_pages ps ys)

-- ---- of a tree whose levels are in order

module _ (t : Tree) (held : HoldsLevels t.pages (levels_of t)) (levels : AreLevels (levels_of t)) where
  root_is_top : top_pid (levels_of t).level (levels_of t).above ≡ t.root
  root_is_top = top-below t.pages (pred t.height) (t.root ∷ []) []

  above_height : pred t.height ≡ length (levels_of t).above
  above_height = let e = height-below t.pages (pred t.height) (t.root ∷ []) [] in omega (arith, e)

  pub whole_tree : IsSubtree t.pages (pred t.height) (root_place t.pages t.root)
  whole_tree =
      let leaf = leaf_subtrees t.pages (levels_of t).level None held.leaves levels.tiled in
      let root = root_subtree t.pages zero (pred t.height) (levels_of t).level (levels_of t).above levels.stacked held.above levels.first (omega (arith, above_height)) leaf in
      subst (λ (pid : ℕ). IsSubtree t.pages (pred t.height) (root_place t.pages pid)) root_is_top root

  pub root_is_known : IsKnown t.pages (pred t.height) t.root
  root_is_known = is_known t.pages (pred t.height) (root_place t.pages t.root) whole_tree

  pub contents-leaves : contents t ≡ pairs (leaf_pages t.pages (leaves_under t.pages (pred t.height) (t.root ∷ [])))
  contents-leaves =
      ap (λ (ls : List (Placed (List ℕ))). joined ls) (leaves-below t.pages (pred t.height) (t.root ∷ []) []) ∙ joined-leaves t.pages (leaves_under t.pages (pred t.height) (t.root ∷ []))

  -- the leaves found are the last leaves of the level, in key order
  pub record AreLast (found : List ℕ) : Type 0 where
    pub before : List (Page (List ℕ))
    pub whole : map (λ p. p.page) (levels_of t).level ≡ before ++ leaf_pages t.pages found

  pub pages-placed : (pids : List ℕ) → map (λ (p : Placed (List ℕ)). p.page) (map (leaf_at t.pages) pids) ≡ leaf_pages t.pages pids
  pages-placed [] = refl
  pages-placed (pid ∷ pids) = ap (λ (x : List (Page (List ℕ))). leaf_under t.pages pid ∷ x) (pages-placed pids)

  pub contents-rise : IsRising (contents t)
  contents-rise = rising-joined (levels_of t).level None levels.tiled
