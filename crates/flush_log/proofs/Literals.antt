-- Notation for the worked rows of the log: pages, trees, frames.
use Rattle.std.specs.Prelude.{ℕ, List, [], ◌∷◌, map, Option, Some, None, codes}
use Prim.Native.String.{String}
use Rattle.index_page.specs.Page.{PageOfKind}
use Rattle.index_page.specs.Page.PageOfKind.{Leaf, Index}
use Rattle.mapping.specs.Tree.{Logged, Tree}
use Rattle.frame_codec.specs.declared.format.KeyEncoding.TheVariants.{Whole, PrefixCompressed}
use Rattle.frame_codec.specs.Frame.{Content, Frame}
use Rattle.frame_codec.specs.Frame.Content.{FullLeaf, DeltaLeaf, FullIndex}

-- a pair of a key and a value, by their letters; a change that sets it, and one that deletes the key
abbrev pub pair : String → String → List ℕ × List ℕ
pair k v = (codes k, codes v)

abbrev pub set : String → String → List ℕ × Option (List ℕ)
set k v = (codes k, Some (codes v))

abbrev pub gone : {V : Type 0} → String → List ℕ × Option V
gone k = (codes k, None)

-- pages under their pids, with a low key, runs (newest first) and a base
abbrev pub leaf : ℕ → String → List (List (List ℕ × Option (List ℕ))) → List (List ℕ × List ℕ) → ℕ × PageOfKind
leaf pid low runs base = (pid, Leaf (record { low = codes low; layers = record { runs = runs; base = base } }))

abbrev pub index : ℕ → String → List (List (List ℕ × Option ℕ)) → List (List ℕ × ℕ) → ℕ × PageOfKind
index pid low runs base = (pid, Index (record { low = codes low; layers = record { runs = runs; base = base } }))

-- pages, root, height, and what the log has
abbrev pub tree : List (ℕ × PageOfKind) → ℕ → ℕ → List (ℕ × Logged) → Tree
tree pages root height logged = record { pages = pages; root = root; height = height; logged = logged }

-- a frame
abbrev pub frame : ℕ → Content → Frame
frame pid content = record { pid = pid; content = content }

-- ---- row 4: two leaves under an index page

abbrev pub base_0 : List (List ℕ × List ℕ)
base_0 = pair "a" "1" ∷ pair "b" "2" ∷ []

abbrev pub base_1 : List (List ℕ × List ℕ)
base_1 = pair "c" "3" ∷ pair "d" "4" ∷ pair "e" "5" ∷ []

abbrev pub base_2 : List (List ℕ × ℕ)
base_2 = ([], 0) ∷ (codes "c", 1) ∷ []

abbrev pub pages_of_row_4 : List (ℕ × PageOfKind)
pages_of_row_4 = leaf 0 "" [] base_0 ∷ leaf 1 "c" [] base_1 ∷ index 2 "" [] base_2 ∷ []

-- the frames of its flush, after page 0 was replaced; the others are new
abbrev pub text_of_row_4 : List Frame
text_of_row_4 = frame 0 (FullLeaf Whole [] base_0) ∷ frame 1 (FullLeaf Whole (codes "c") base_1) ∷ frame 2 (FullIndex Whole [] base_2) ∷ []

-- the same with prefix-compressed keys
abbrev pub shared_text_of_row_4 : List Frame
shared_text_of_row_4 = frame 0 (FullLeaf PrefixCompressed [] base_0) ∷ frame 1 (FullLeaf PrefixCompressed (codes "c") base_1) ∷ frame 2 (FullIndex PrefixCompressed [] base_2) ∷ []

-- ---- row 5: keys by their letters, each with the value 1

abbrev pub ones : String → List (List ℕ × List ℕ)
ones keys = map (λ k. (k ∷ [], codes "1")) (codes keys)

-- ---- rows 15 and 16: every third flush writes the base, the others a run

abbrev pub sixteen : String
sixteen = "0123456789abcdef"

abbrev pub run : List Frame
run = frame 0 (DeltaLeaf (set "a" sixteen ∷ [])) ∷ []

abbrev pub base : List Frame
base = frame 0 (FullLeaf Whole [] (pair "a" sixteen ∷ [])) ∷ []

abbrev pub three : List (List Frame)
three = run ∷ run ∷ base ∷ []
