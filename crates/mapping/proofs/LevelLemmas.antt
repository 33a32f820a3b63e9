-- Lemmas on the levels of a tree, for the proofs of this crate and of those above it.
use Rattle.std.specs.Prelude.{◌≡◌, ℕ, suc, pred, ◌+◌, List, [], ◌∷◌, ◌++◌, map, length, Option}
use Rattle.std.proofs.Common.{refl, sym, ap, ◌∙◌, arith}
use Rattle.std.specs.List.{AllByRecursion}
use Rattle.std.specs.Map.{values_of}
use Rattle.std.proofs.lemmas.List.{map-append}
use Rattle.index_page.specs.Page.{Page, PageOfKind}
use Rattle.mapping.specs.Tree.{Tree, page_at}
use Rattle.mapping.specs.Levels.{Placed, Levels, joined, names, pids, as_leaf, as_index, leaf_at, index_at, levels_below, levels_of, first_pid, top_pid}
use Rattle.mapping.specs.Proper.{Stacked, HasLeaves, HasIndexPages, HoldsLevels}
use Rattle.mapping.proofs.TileLemmas.{Separators}

module _ {V : Type 0} where
  pub values_of-names : (ps : List (Placed V)) → values_of (names ps) ≡ pids ps
  values_of-names [] = refl
  values_of-names (p ∷ ps) = ap (λ (ns : List ℕ). p.pid ∷ ns) (values_of-names ps)

  pub pids-append : (xs ys : List (Placed V)) → pids (xs ++ ys) ≡ pids xs ++ pids ys
  pids-append xs ys = map-append (λ p. p.pid) xs ys

  pub same_pids : {W : Type 0} (ps : List (Placed V)) (qs : List (Placed W)) → names ps ≡ names qs → pids ps ≡ pids qs
  same_pids ps qs e = sym (values_of-names ps) ∙ ap (λ (ns : Separators). values_of ns) e ∙ (let r : values_of (names qs) ≡ pids qs = values qs in r)
    where
      values : {W : Type 0} (qs : List (Placed W)) → values_of (names qs) ≡ pids qs
      values [] = refl
      values (q ∷ qs) = ap (λ (ns : List ℕ). q.pid ∷ ns) (values qs)

  placed_same : (pid : ℕ) (p q : Page V) → p ≡ q → (let at : Page V → Placed V = λ x. record { pid = pid; page = x } in at p ≡ at q)
  placed_same pid p q e = ap (λ (x : Page V). (let r : Placed V = record { pid = pid; page = x } in r)) e

  only_pid : (ps : List (Placed V)) → length ps ≡ 1 → first_pid ps ∷ [] ≡ pids ps
  only_pid [] e = absurd (omega arith)
  only_pid (p ∷ []) e = refl
  only_pid (p ∷ q ∷ ps) e = absurd (omega arith)

-- a level that the table has is found under its pids
pub leaves_found : (t : List (ℕ × PageOfKind)) (ps : List (Placed (List ℕ))) → HasLeaves t ps → map (leaf_at t) (pids ps) ≡ ps
leaves_found t [] h = refl
leaves_found t (p ∷ ps) h =
    let a : leaf_at t p.pid ≡ p = placed_same p.pid (as_leaf (page_at t p.pid)) p.page (ap (λ (x : Option PageOfKind). as_leaf x) h.0) in
    let b = leaves_found t ps h.1 in
    cc

pub index_pages_found : (t : List (ℕ × PageOfKind)) (ps : List (Placed ℕ)) → HasIndexPages t ps → map (index_at t) (pids ps) ≡ ps
index_pages_found t [] h = refl
index_pages_found t (p ∷ ps) h =
    let a : index_at t p.pid ≡ p = placed_same p.pid (as_index (page_at t p.pid)) p.page (ap (λ (x : Option PageOfKind). as_index x) h.0) in
    let b = index_pages_found t ps h.1 in
    cc

-- one step down from a level of index pages that the table has
step_down : {V : Type 0} (t : List (ℕ × PageOfKind)) (more : ℕ) (level : List (Placed V)) (up : List (Placed ℕ)) (ups : List (List (Placed ℕ))) → HasIndexPages t up → joined up ≡ names level → levels_below t (suc more) (pids up) ups ≡ levels_below t more (pids level) (up ∷ ups)
step_down t more level up ups h l =
    ap (λ (here : List (Placed ℕ)). levels_below t more (values_of (joined here)) (here ∷ ups)) (index_pages_found t up h)
    ∙ ap (λ (ns : Separators). levels_below t more (values_of ns) (up ∷ ups)) l
    ∙ ap (λ (ns : List ℕ). levels_below t more ns (up ∷ ups)) (values_of-names level)

-- the walk comes to each level of a table that has the levels above it
comes_to : {V : Type 0} (t : List (ℕ × PageOfKind)) (more : ℕ) (level : List (Placed V)) (ups : List (List (Placed ℕ))) → AllByRecursion (HasIndexPages t) ups → Stacked level ups → levels_below t (length ups + more) (top_pid level ups ∷ []) [] ≡ levels_below t more (pids level) ups
comes_to t more level [] h o =
    let n : 0 + more ≡ more = omega arith in
    ap (λ (m : ℕ). levels_below t m (first_pid level ∷ []) []) n ∙ ap (λ (ns : List ℕ). levels_below t more ns []) (only_pid level o)
comes_to t more level (up ∷ ups) h o =
    let n : suc (length ups) + more ≡ length ups + suc more = omega arith in
    ap (λ (m : ℕ). levels_below t m (top_pid up ups ∷ []) []) n
    ∙ comes_to t (suc more) up ups h.1 o.1
    ∙ step_down t more level up ups h.0 o.0.linked

-- the levels of a table that has some levels under one root are those levels
pub levels_found : (t : List (ℕ × PageOfKind)) (level : List (Placed (List ℕ))) (ups : List (List (Placed ℕ))) → HasLeaves t level → AllByRecursion (HasIndexPages t) ups → Stacked level ups → (let l : Levels = record { level = level; above = ups } in levels_below t (length ups) (top_pid level ups ∷ []) [] ≡ l)
levels_found t level ups h k o =
    let n : length ups ≡ length ups + 0 = omega arith in
    ap (λ (m : ℕ). levels_below t m (top_pid level ups ∷ []) []) n
    ∙ comes_to t 0 level ups k o
    ∙ ap (λ (ps : List (Placed (List ℕ))). (let l : Levels = record { level = ps; above = ups } in l)) (leaves_found t level h)

-- the same of a tree with this root and height
pub levels_of_tree : (t : Tree) (l : Levels) → HoldsLevels t.pages l → Stacked l.level l.above → t.root ≡ top_pid l.level l.above → t.height ≡ suc (length l.above) → levels_of t ≡ l
levels_of_tree t l h o r n =
    ap (λ (m : ℕ). levels_below t.pages (pred m) (t.root ∷ []) []) n
    ∙ ap (λ (pid : ℕ). levels_below t.pages (length l.above) (pid ∷ []) []) r
    ∙ levels_found t.pages l.level l.above h.leaves h.above o
