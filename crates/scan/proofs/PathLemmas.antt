-- Lemmas on the path of an iteration over the leaves of a tree.
use Rattle.std.specs.Prelude.{◌≡◌, ℕ, zero, suc, ◌+◌, List, [], ◌∷◌, ◌++◌, map, length, Some}
use Rattle.std.proofs.Common.{refl, ap, ◌∙◌, subst, arith, append-nil}
use Rattle.std.specs.List.{AllByRecursion}
use Rattle.std.specs.Map.{values_of}
use Rattle.std.proofs.lemmas.Grind.{flat_map-append}
use Rattle.std.proofs.lemmas.List.{map-append}
use Rattle.index_page.specs.Page.{Page, PageOfKind, IsIndex}
use Rattle.index_page.specs.Page.PageOfKind.{Leaf, Index}
use Rattle.index_page.specs.Children.{child_entries}
use Rattle.mapping.specs.Tree.{page_at}
use Rattle.mapping.specs.Levels.{Placed, entries, joined, as_leaf, as_index, index_at}
use Rattle.scan.specs.Path.{entries_at, leaves_under, leaf_under, leaf_pages, IsKnown, ArePathOf}

module _ (ps : List (ℕ × PageOfKind)) where
  -- ---- leaves below lists of pages

  pub leaves_under-append : (n : ℕ) (xs ys : List ℕ) → leaves_under ps n (xs ++ ys) ≡ leaves_under ps n xs ++ leaves_under ps n ys
  leaves_under-append zero xs ys = refl
  leaves_under-append (suc n) xs ys =
      let up : List ℕ → List (Placed ℕ) = λ pids. map (index_at ps) pids in
      ap (λ (x : List (Placed ℕ)). leaves_under ps n (values_of (joined x))) (map-append (index_at ps) xs ys)
      ∙ ap (λ (x : List (List ℕ × ℕ)). leaves_under ps n (values_of x)) (flat_map-append entries (up xs) (up ys))
      ∙ ap (λ (x : List ℕ). leaves_under ps n x) (map-append (λ (e : List ℕ × ℕ). e.1) (joined (up xs)) (joined (up ys)))
      ∙ leaves_under-append n (values_of (joined (up xs))) (values_of (joined (up ys)))

  pub leaves_under-one : (n pid : ℕ) → leaves_under ps (suc n) (pid ∷ []) ≡ leaves_under ps n (values_of (entries_at ps pid))
  leaves_under-one n pid = ap (λ (x : List (List ℕ × ℕ)). leaves_under ps n (values_of x)) (append-nil (entries_at ps pid))

  pub leaf_pages-append : (xs ys : List ℕ) → leaf_pages ps (xs ++ ys) ≡ leaf_pages ps xs ++ leaf_pages ps ys
  leaf_pages-append xs ys = map-append (leaf_under ps) xs ys

  -- ---- a page is pushed onto a path, or popped

  pub path-push : (n m : ℕ) (path : List (List ℕ)) (pids : List ℕ) → length path + suc m ≡ n → ArePathOf ps n path → AllByRecursion (IsKnown ps m) pids → ArePathOf ps n (path ++ pids ∷ [])
  path-push zero m path pids h a k = absurd (omega arith)
  path-push (suc n) m [] pids h a k = let same : m ≡ n = omega arith in (subst (λ (j : ℕ). AllByRecursion (IsKnown ps j) pids) same k, tt)
  path-push (suc n) m (qs ∷ path) pids h a k = (a.0, path-push n m path pids (omega arith) a.1 k)

  pub record IsTop (n : ℕ) (path : List (List ℕ)) (pids : List ℕ) : Type 0 where
    pub level : ℕ
    pub height : length path + suc level ≡ n
    pub known : AllByRecursion (IsKnown ps level) pids
    pub below : ArePathOf ps n path

  pub path_pop : (n : ℕ) (path : List (List ℕ)) (pids : List ℕ) → ArePathOf ps n (path ++ pids ∷ []) → IsTop n path pids
  path_pop zero [] pids a = absurd a
  path_pop zero (qs ∷ path) pids a = absurd a
  path_pop (suc n) [] pids a = record { level = n; height = omega arith; known = a.0; below = tt }
  path_pop (suc n) (qs ∷ path) pids a =
      let t = path_pop n path pids a.1 in
      let h = t.height in
      record { level = t.level; height = omega (arith, h); known = t.known; below = (a.0, t.below) }

  -- ---- an index page

  -- the page is an index page with these entries, `level + 1` levels above the leaves
  pub record IsIndexAt (n pid : ℕ) (page : PageOfKind) : Type 0 where
    pub level : ℕ
    pub height : suc level ≡ n
    pub known : IsKnown ps (suc level) pid
    pub entries : child_entries page ≡ entries_at ps pid

  pub index_page_at : (n pid : ℕ) (page : PageOfKind) → IsKnown ps n pid → Some page ≡ page_at ps pid → IsIndex page → IsIndexAt n pid page
  index_page_at zero pid page k h i = absurd (wrong page (as_leaf (page_at ps pid)) i (h ∙ k))
    where
      wrong : (page : PageOfKind) (p : Page (List ℕ)) → IsIndex page → Some page ≡ Some (Leaf p) → ⊥
      wrong (Leaf q) p i e = i
      wrong (Index q) p i e = cc
  index_page_at (suc n) pid page k h i = record { level = n; height = refl; known = k; entries = same page (as_index (page_at ps pid)) (h ∙ k.0) }
    where
      same : (page : PageOfKind) (p : Page ℕ) → Some page ≡ Some (Index p) → child_entries page ≡ child_entries (Index p)
      same page p e = let eq : page ≡ Index p = cc in ap (λ (x : PageOfKind). child_entries x) eq

  pub under-none : (n : ℕ) → leaves_under ps n [] ≡ []
  under-none zero = refl
  under-none (suc n) = under-none n
