-- A tree seen as its levels, the leaves first, each from left to right.
use Rattle.std.specs.Prelude.{ℕ, zero, suc, pred, List, [], ◌∷◌, ◌++◌, map, flat_map, Option, Some}
use Rattle.std.specs.Ordering.{nat_cmp}
use Rattle.std.specs.Map.{values_of}
use Rattle.std.specs.BTreeMap.{insert_entry}
use Rattle.keys.specs.Bytes.{Bytes, Pairs, Separators}
use Rattle.index_page.specs.Page as page
use Rattle.index_page.specs.Page.{Page, PageOfKind, bare}
use Rattle.index_page.specs.Page.PageOfKind.{Leaf, Index}
use Rattle.mapping.specs.Tree.{Tree, page_at}

-- a page under its pid
pub record Placed (V : Type 0) : Type 0 where
  pub pid : ℕ
  pub page : Page V

-- the pairs that are present in a page, and in the pages of a level, in order
abbrev pub entries : {V : Type 0} → Placed V → Pairs V
entries p = page.entries p.page

abbrev pub joined : {V : Type 0} → List (Placed V) → Pairs V
joined ps = flat_map entries ps

-- a page's entry in its parent: its low key and its pid
abbrev pub name : {V : Type 0} → Placed V → Bytes × ℕ
name p = (p.page.low, p.pid)

abbrev pub names : {V : Type 0} → List (Placed V) → Separators
names ps = map name ps

abbrev pub pids : {V : Type 0} → List (Placed V) → List ℕ
pids ps = map (λ p. p.pid) ps

-- a level of pages, and the levels above it, nearest first: the last one is the root's
pub record Tower (V : Type 0) : Type 0 where
  pub level : List (Placed V)
  pub above : List (List (Placed ℕ))

-- the levels of a tree: the leaves, and the levels of index pages above them
abbrev pub Levels : Type 0
Levels = Tower Bytes

-- the leaf, or the index page, under a pid; an empty one if there is none of that kind
abbrev pub as_leaf : Option PageOfKind → Page Bytes
as_leaf (Some (Leaf p)) = p
as_leaf _ = bare [] []

abbrev pub as_index : Option PageOfKind → Page ℕ
as_index (Some (Index p)) = p
as_index _ = bare [] []

abbrev pub leaf_at : List (ℕ × PageOfKind) → ℕ → Placed Bytes
leaf_at ps pid = record { pid = pid; page = as_leaf (page_at ps pid) }

abbrev pub index_at : List (ℕ × PageOfKind) → ℕ → Placed ℕ
index_at ps pid = record { pid = pid; page = as_index (page_at ps pid) }

-- the levels from these pids down to the leaves, with n levels of index pages below the given ones
abbrev pub levels_below : List (ℕ × PageOfKind) → ℕ → List ℕ → List (List (Placed ℕ)) → Levels
levels_below ps zero level above = record { level = map (leaf_at ps) level; above = above }
levels_below ps (suc n) level above =
    let here : List (Placed ℕ) = map (index_at ps) level in
    levels_below ps n (values_of (joined here)) (here ∷ above)

-- the levels of the tree, from its root down
abbrev pub levels_of : Tree → Levels
levels_of t = levels_below t.pages (pred t.height) (t.root ∷ []) []

-- the pairs that are present in the leaves, in order
abbrev pub contents : Tree → Pairs Bytes
contents t = joined (levels_of t).level

-- all pids of the levels
abbrev pub all_pids : {V : Type 0} → List (Placed V) → List (List (Placed ℕ)) → List ℕ
all_pids level above = pids level ++ flat_map pids above

-- the pages of the levels, as a table stores them
abbrev pub listed_leaves : List (Placed Bytes) → List (ℕ × PageOfKind)
listed_leaves ps = map (λ p. (p.pid, Leaf p.page)) ps

abbrev pub listed_index_pages : List (Placed ℕ) → List (ℕ × PageOfKind)
listed_index_pages ps = map (λ p. (p.pid, Index p.page)) ps

abbrev pub all_pages : Levels → List (ℕ × PageOfKind)
all_pages l = listed_leaves l.level ++ flat_map listed_index_pages l.above

-- pages by rising pid
abbrev pub by_pid : List (ℕ × PageOfKind) → List (ℕ × PageOfKind)
by_pid [] = []
by_pid (p ∷ ps) = insert_entry nat_cmp (by_pid ps) p.0 p.1

-- the pid of the first page, or 0 if there is none
abbrev pub first_pid : {V : Type 0} → List (Placed V) → ℕ
first_pid [] = 0
first_pid (p ∷ ps) = p.pid

-- the pid of the first page of the highest level: the root's
abbrev pub top_pid : {V : Type 0} → List (Placed V) → List (List (Placed ℕ)) → ℕ
top_pid level [] = first_pid level
top_pid level (up ∷ ups) = top_pid up ups
