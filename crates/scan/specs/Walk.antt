-- Iteration over the leaves of a tree in memory, in either direction, by a path with room for the greatest number of levels. Lists are in key order.
use Rattle.std.specs.Prelude.{◌≡◌, ℕ, pred, ◌-◌, ◌≤◌, Bool, not, List, [], ◌∷◌, Option, Some, None}
use Rattle.smallvec.specs.SmallVec.{SmallVec}
use Rattle.keys.specs.Bytes.{Bytes, Pairs}
use Rattle.index_page.specs.Page.{Page}
use Rattle.mapping.specs.Tree.{most_levels}
use Rattle.mapping.specs.TreeInMemory.{TreeInMemory, AreAllHome, tree_of}
use Rattle.scan.specs.Direction.{in_turn, IsNext}
use Rattle.scan.specs.Path.{leaves_beyond, leaves_ahead, leaf_pages, pairs, IsKnown, ArePathOf}
use Rattle.keys.specs.Range.{is_below}
use Rattle.scan.specs.declared.direction.Direction.{Direction}
use Rattle.scan.specs.declared.direction.Direction.TheVariants.{Up}

-- no page is checked out, the tree has no more levels than allowed, the path consists of pages of the tree, and it has room for a page of each level
pub record IsWalk (t : TreeInMemory) (path : SmallVec (List ℕ)) : Type 0 where
  pub home : AreAllHome t
  pub height : t.height ≤ most_levels
  pub known : ArePathOf (tree_of t).pages (pred t.height) path.items
  pub room : path.capacity ≡ most_levels

-- the page is `depth` levels below the root
pub record IsAt (t : TreeInMemory) (depth : ℕ) (pid : ℕ) : Type 0 where
  pub within : depth ≤ pred t.height
  pub known : IsKnown (tree_of t).pages (pred t.height - depth) pid

-- the leaves that a descent from this page for an edge leads to, and those that a path leads to
abbrev pub walk_beyond : Direction → TreeInMemory → ℕ → (Bytes → Bool) → ℕ → List (Page Bytes)
walk_beyond d t depth under pid = leaf_pages (tree_of t).pages (leaves_beyond d (tree_of t).pages (pred t.height - depth) under pid)

abbrev pub walk_ahead : Direction → TreeInMemory → List (List ℕ) → List (Page Bytes)
walk_ahead d t path = leaf_pages (tree_of t).pages (leaves_ahead d (tree_of t).pages (pred t.height) path)

-- the remaining pairs of a leaf, and those of the leaves that come after it
abbrev pub pairs_along : Direction → Pairs Bytes → List (Page Bytes) → Pairs Bytes
pairs_along d leaf leaves = in_turn d leaf (pairs leaves)

-- a next pair, if it was read already, and the others
abbrev pub pairs_with : Direction → Option (Bytes × Bytes) → Pairs Bytes → Pairs Bytes
pairs_with d None es = es
pairs_with d (Some e) es = in_turn d (e ∷ []) es

-- this is the key of the first pair, or there is no pair
abbrev pub HasNextKey : Direction → Option Bytes → Pairs Bytes → Type 0
HasNextKey d None es = es ≡ []
HasNextKey d (Some k) es = (v : Bytes) × (rest : Pairs Bytes) × IsNext d es (k, v) rest

-- the leaves from the one that a descent from this page for the key reaches
abbrev pub walk_from : TreeInMemory → ℕ → Bytes → ℕ → List (Page Bytes)
walk_from t depth key pid = walk_beyond Up t depth (λ j. not (is_below key j)) pid
