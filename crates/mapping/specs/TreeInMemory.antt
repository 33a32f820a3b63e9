-- A tree in memory: a table with a root and a height, and the tree that it represents.
use Rattle.std.specs.Prelude.{ℕ, List, [], ◌∷◌, flat_map, Option, Some, IsSome}
use Rattle.std.specs.List.{AllByRecursion}
use Rattle.index_page.specs.Page.{PageOfKind, bare}
use Rattle.index_page.specs.Page.PageOfKind.{Leaf}
use Rattle.mapping.specs.Tree.{Tree}
use Rattle.mapping.specs.Tree.Logged.{Upto}
use Rattle.mapping.specs.Table.{Mapping}
use Rattle.mapping.specs.Slots.{entry_if}

-- the table of the pages and their log states; the root's pid; the number of levels
pub record TreeInMemory : Type 0 where
  pub table : Mapping PageOfKind
  pub root : ℕ
  pub height : ℕ

-- no place is empty, so that no page is checked out
abbrev pub AreAllHome : TreeInMemory → Type 0
AreAllHome t = AllByRecursion (λ e. IsSome e.1) t.table.places

-- the pages that are not checked out, by pid
abbrev pub home_pages : {P : Type 0} → List (ℕ × Option P) → List (ℕ × P)
home_pages es = flat_map (λ e. entry_if e.0 e.1) es

-- the tree of these pages
abbrev pub tree_of : TreeInMemory → Tree
tree_of t = record { pages = home_pages t.table.places; root = t.root; height = t.height; logged = t.table.logged }

-- the tree of a new store, in memory: one empty leaf, which the log contains
abbrev pub new_in_memory : TreeInMemory
new_in_memory = record { table = record { places = (0, Some (Leaf (bare [] []))) ∷ []; logged = (0, Upto 0) ∷ [] }; root = 0; height = 1 }
