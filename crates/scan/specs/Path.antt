-- The leaves of a tree in either direction: a path of index pages, each with its remaining children.
use Rattle.std.specs.Prelude.{◌≡◌, ℕ, zero, suc, ◌-◌, ◌<◌, ⊤, Bool, if◌then◌else◌, List, [], ◌∷◌, ◌++◌, map, flat_map, length, Option, Some, None}
use Rattle.std.specs.List.{AllByRecursion, filter}
use Rattle.std.specs.Map.{values_of}
use Rattle.keys.specs.Bytes.{Bytes, Pairs, Separators}
use Rattle.keys.specs.Order.{IsRising}
use Rattle.delta_chain.specs.Layers.{Layers}
use Rattle.index_page.specs.Page.{Page, PageOfKind, entries}
use Rattle.index_page.specs.Page.PageOfKind.{Leaf, Index}
use Rattle.mapping.specs.Tree.{page_at}
use Rattle.mapping.specs.Levels.{joined, as_leaf, as_index, index_at}
use Rattle.scan.specs.Direction.{left_at, in_turn}
use Rattle.scan.specs.declared.direction.Direction.{Direction}
use Rattle.scan.specs.declared.direction.Direction.TheVariants.{Up, Down}

-- the entries of the index page under a pid
abbrev pub entries_at : List (ℕ × PageOfKind) → ℕ → Separators
entries_at ps pid = entries (as_index (page_at ps pid))

-- the pids of the leaves n levels below these pages, in order
abbrev pub leaves_under : List (ℕ × PageOfKind) → ℕ → List ℕ → List ℕ
leaves_under ps zero pids = pids
leaves_under ps (suc n) pids = leaves_under ps n (values_of (joined (map (index_at ps) pids)))

-- a leaf: its low key, and what it holds
abbrev pub leaf_with : Bytes → Layers Bytes → Page Bytes
leaf_with low layers = record { low = low; layers = layers }

-- the leaf under a pid, and those under some pids
abbrev pub leaf_under : List (ℕ × PageOfKind) → ℕ → Page Bytes
leaf_under ps pid = as_leaf (page_at ps pid)

abbrev pub leaf_pages : List (ℕ × PageOfKind) → List ℕ → List (Page Bytes)
leaf_pages ps pids = map (leaf_under ps) pids

-- the concatenated pairs of leaves
abbrev pub pairs : List (Page Bytes) → Pairs Bytes
pairs ls = flat_map entries ls

-- under the pid is a leaf, or, n levels above the leaves, an index page with rising keys and with at least one child; the same holds for each of its
-- children
abbrev pub IsKnown : List (ℕ × PageOfKind) → ℕ → ℕ → Type 0
IsKnown ps zero pid = page_at ps pid ≡ Some (Leaf (as_leaf (page_at ps pid)))
IsKnown ps (suc n) pid =
    (page_at ps pid ≡ Some (Index (as_index (page_at ps pid)))) × IsRising (entries_at ps pid) × (0 < length (entries_at ps pid)) × AllByRecursion (IsKnown ps n) (values_of (entries_at ps pid))

-- the same holds for all pages on a path, each with the levels below it
abbrev pub ArePathOf : List (ℕ × PageOfKind) → ℕ → List (List ℕ) → Type 0
ArePathOf ps n [] = ⊤
ArePathOf ps zero (pids ∷ path) = ⊥
ArePathOf ps (suc n) (pids ∷ path) = AllByRecursion (IsKnown ps n) pids × ArePathOf ps n path

-- ---- in either direction

-- the pids of the remaining children of a page at a place, if there is such a page
abbrev pub pids_at : Direction → Option (Separators × ℕ) → List ℕ
pids_at d None = []
pids_at d (Some c) = values_of (left_at d c.1 c.0)

-- the place of an iteration over children whose next one is the last of the first n
abbrev pub child_place : Direction → ℕ → ℕ
child_place Up n = n - 1
child_place Down n = n

-- the children from the last one on whose low key is below an edge, or all
abbrev pub children_up : (Bytes → Bool) → Separators → Separators
children_up under [] = []
children_up under (e ∷ []) = e ∷ []
children_up under (e ∷ f ∷ es) = if under f.0 then children_up under (f ∷ es) else e ∷ f ∷ es

-- the children that may have keys beyond an edge: the one whose range contains it, and those that come after it
abbrev pub children_beyond : Direction → (Bytes → Bool) → Separators → Separators
children_beyond Up under es = children_up under es
children_beyond Down under [] = []
children_beyond Down under (e ∷ es) = e ∷ filter (λ f. under f.0) es

-- the leaves that are found below the first of some children in this direction, and all leaves below the others
abbrev pub leaves_by_first : Direction → (Bytes × ℕ → List ℕ) → (List ℕ → List ℕ) → Separators → List ℕ
leaves_by_first d first under [] = []
leaves_by_first Up first under (e ∷ es) = first e ++ under (values_of es)
leaves_by_first Down first under (e ∷ []) = first e
leaves_by_first Down first under (e ∷ f ∷ es) = under (e.1 ∷ []) ++ leaves_by_first Down first under (f ∷ es)

-- the leaves n levels below a page beyond an edge, with the one whose range contains it
abbrev pub leaves_beyond : Direction → List (ℕ × PageOfKind) → ℕ → (Bytes → Bool) → ℕ → List ℕ
leaves_beyond d ps zero under pid = pid ∷ []
leaves_beyond d ps (suc n) under pid = leaves_by_first d (λ e. leaves_beyond d ps n under e.1) (leaves_under ps n) (children_beyond d under (entries_at ps pid))

-- the leaves that a path leads to, which lists the children of the highest page first; that page is n levels above the leaves
abbrev pub leaves_ahead : Direction → List (ℕ × PageOfKind) → ℕ → List (List ℕ) → List ℕ
leaves_ahead d ps n [] = []
leaves_ahead d ps zero (pids ∷ path) = []
leaves_ahead d ps (suc n) (pids ∷ path) = in_turn d (leaves_ahead d ps n path) (leaves_under ps n pids)
