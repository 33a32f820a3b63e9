-- Notation for the examples of findings and the worked rows: pages, trees.
use Rattle.std.specs.Prelude.{ℕ, List, [], ◌∷◌, map, Option, Some, None}
use Rattle.keys.proofs.Literals.{c}
use Rattle.index_page.specs.Page.{PageOfKind}
use Rattle.index_page.specs.Page.PageOfKind.{Leaf, Index}
use Rattle.mapping.specs.Tree.{Tree}
use Rattle.mapping.specs.Finding.{Finding}

abbrev pub Bytes : Type 0
Bytes = List ℕ

-- ---- pages

-- the pairs of these keys with the empty value
abbrev pub pairs : List Bytes → List (Bytes × Bytes)
pairs keys = map (λ key. (key, [])) keys

-- changes in runs: the empty value, and absence
abbrev pub set : Bytes → Bytes × Option Bytes
set key = (key, Some [])

abbrev pub gone : {V : Type 0} → Bytes → Bytes × Option V
gone key = (key, None)

-- pages under their pids, with a low key, runs (newest first) and a base
abbrev pub leaf_under : ℕ → Bytes → List (List (Bytes × Option Bytes)) → List (Bytes × Bytes) → ℕ × PageOfKind
leaf_under pid low runs base = (pid, Leaf (record { low = low; layers = record { runs = runs; base = base } }))

abbrev pub index_under : ℕ → Bytes → List (List (Bytes × Option ℕ)) → List (Bytes × ℕ) → ℕ × PageOfKind
index_under pid low runs base = (pid, Index (record { low = low; layers = record { runs = runs; base = base } }))

-- pages without runs
abbrev pub leaf : ℕ → Bytes → List (Bytes × Bytes) → ℕ × PageOfKind
leaf pid low base = leaf_under pid low [] base

abbrev pub index : ℕ → Bytes → List (Bytes × ℕ) → ℕ × PageOfKind
index pid low base = index_under pid low [] base

-- ---- trees

-- pages, root and height, if the log has nothing
abbrev pub tree : List (ℕ × PageOfKind) → ℕ → ℕ → Tree
tree pages root height = record { pages = pages; root = root; height = height; logged = [] }

-- the one leaf 0, with these runs and this base
abbrev pub lone_leaf : List (List (Bytes × Option Bytes)) → List (Bytes × Bytes) → Tree
lone_leaf runs base = tree (leaf_under 0 [] runs base ∷ []) 0 1

-- the leaves 0 and 1, which meet at c, under the root 2
abbrev pub two_leaves : ℕ × PageOfKind → ℕ × PageOfKind → Tree
two_leaves left right = tree (left ∷ right ∷ index 2 [] (([], 0) ∷ (c, 1) ∷ []) ∷ []) 2 2

-- the rule that is broken, and the page that breaks it
abbrev pub found : ℕ → ℕ → Option Finding
found rule pid = Some (record { rule = rule; pid = pid })
