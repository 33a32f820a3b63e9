-- The frames of the flushes of the worked rows.
use Rattle.std.specs.Prelude.{◌≡◌, [], ◌∷◌, codes, drop}
use Rattle.std.proofs.Common.{refl}
use Rattle.keys.specs.declared.version.Version.TheVariants.{One, Two}
use Rattle.mapping.specs.Tree.{first_tree}
use Rattle.mapping.specs.Tree.Logged.{Old, Upto}
use Rattle.frame_codec.specs.declared.format.KeyEncoding.TheVariants.{Whole, PrefixCompressed}
use Rattle.frame_codec.specs.Frame.Content.{FullLeaf, DeltaLeaf, FullIndex, DeltaIndex, Free}
use Rattle.flush_log.specs.FlushText.{flush_frames, upgrade_frames}
use Rattle.flush_log.proofs.Literals.{pair, set, gone, leaf, index, tree, frame, base_0, pages_of_row_4, text_of_row_4, shared_text_of_row_4, ones}

-- nothing of a new store
row_1 : flush_frames One first_tree ≡ []
row_1 = refl

-- a run in front of an empty base, and nothing more after it is written
row_3 : flush_frames One (tree (leaf 0 "" ((set "a" "1" ∷ []) ∷ []) [] ∷ []) 0 1 ((0, Upto 0) ∷ [])) ≡ frame 0 (DeltaLeaf (set "a" "1" ∷ [])) ∷ []
row_3 = refl

row_3_again : flush_frames One (tree (leaf 0 "" ((set "a" "1" ∷ []) ∷ []) [] ∷ []) 0 1 ((0, Upto 1) ∷ [])) ≡ []
row_3_again = refl

-- page 0 replaced and the others new
row_4 : flush_frames One (tree pages_of_row_4 2 2 ((0, Old) ∷ [])) ≡ text_of_row_4
row_4 = refl

row_7 : flush_frames One (tree (leaf 0 "" [] (pair "a" "3" ∷ []) ∷ []) 0 1 ((0, Old) ∷ [])) ≡ frame 0 (FullLeaf Whole [] (pair "a" "3" ∷ [])) ∷ []
row_7 = refl

-- pids 1 and 2 are freed
row_9 : flush_frames One (tree (leaf 0 "" [] [] ∷ []) 0 1 ((0, Old) ∷ (1, Old) ∷ (2, Old) ∷ [])) ≡ frame 0 (FullLeaf Whole [] []) ∷ frame 1 Free ∷ frame 2 Free ∷ []
row_9 = refl

-- a new page with a run
row_12 : flush_frames One (tree (leaf 0 "" ((set "a" "9" ∷ []) ∷ []) base_0 ∷ drop 1 pages_of_row_4) 2 2 ((0, Old) ∷ []))
    ≡ frame 0 (FullLeaf Whole [] base_0) ∷ frame 0 (DeltaLeaf (set "a" "9" ∷ [])) ∷ drop 1 text_of_row_4
row_12 = refl

-- one leaf joined to its neighbour: of page 5 only the run is new (the other pages are left out here)
row_13 : flush_frames One (tree (leaf 0 "" [] base_0 ∷ index 5 "" ((gone "d" ∷ []) ∷ []) (([], 0) ∷ (codes "d", 1) ∷ []) ∷ []) 5 2 ((0, Old) ∷ (1, Old) ∷ (5, Upto 0) ∷ []))
    ≡ frame 0 (FullLeaf Whole [] base_0) ∷ frame 1 Free ∷ frame 5 (DeltaIndex (gone "d" ∷ [])) ∷ []
row_13 = refl

-- of two runs the log has the older one
one_of_two : flush_frames One (tree (leaf 0 "" ((set "a" "2" ∷ []) ∷ (set "a" "1" ∷ []) ∷ []) [] ∷ []) 0 1 ((0, Upto 1) ∷ [])) ≡ frame 0 (DeltaLeaf (set "a" "2" ∷ [])) ∷ []
one_of_two = refl

-- ---- rows 5, 6, 14 and 15

-- eight pages, all new but page 0, which was replaced
row_5 : flush_frames One (tree (leaf 0 "" [] (ones "abc") ∷ leaf 1 "d" [] (ones "def") ∷ leaf 2 "g" [] (ones "ghij") ∷ leaf 3 "k" [] (ones "klm") ∷ leaf 4 "n" [] (ones "nopq")
    ∷ index 5 "" [] (([], 0) ∷ (codes "d", 1) ∷ []) ∷ index 6 "g" [] ((codes "g", 2) ∷ (codes "k", 3) ∷ (codes "n", 4) ∷ []) ∷ index 7 "" [] (([], 5) ∷ (codes "g", 6) ∷ []) ∷ []) 7 3 ((0, Old) ∷ []))
    ≡ frame 0 (FullLeaf Whole [] (ones "abc")) ∷ frame 1 (FullLeaf Whole (codes "d") (ones "def")) ∷ frame 2 (FullLeaf Whole (codes "g") (ones "ghij"))
    ∷ frame 3 (FullLeaf Whole (codes "k") (ones "klm")) ∷ frame 4 (FullLeaf Whole (codes "n") (ones "nopq"))
    ∷ frame 5 (FullIndex Whole [] (([], 0) ∷ (codes "d", 1) ∷ [])) ∷ frame 6 (FullIndex Whole (codes "g") ((codes "g", 2) ∷ (codes "k", 3) ∷ (codes "n", 4) ∷ [])) ∷ frame 7 (FullIndex Whole [] (([], 5) ∷ (codes "g", 6) ∷ [])) ∷ []
row_5 = refl

-- a run of four
row_6 : flush_frames One (tree (leaf 0 "" ((set "a" "1" ∷ set "b" "2" ∷ set "c" "3" ∷ set "d" "4" ∷ []) ∷ []) [] ∷ []) 0 1 ((0, Upto 0) ∷ []))
    ≡ frame 0 (DeltaLeaf (set "a" "1" ∷ set "b" "2" ∷ set "c" "3" ∷ set "d" "4" ∷ [])) ∷ []
row_6 = refl

-- the second run alone, if the log has the first
row_14 : flush_frames One (tree (leaf 0 "" ((set "k" "0123456789abcdef" ∷ []) ∷ (set "a" "012345678" ∷ []) ∷ []) [] ∷ []) 0 1 ((0, Upto 1) ∷ []))
    ≡ frame 0 (DeltaLeaf (set "k" "0123456789abcdef" ∷ [])) ∷ []
row_14 = refl

-- the third put replaces the page, so its flush writes the base
row_15 : flush_frames One (tree (leaf 0 "" [] (pair "a" "0123456789abcdef" ∷ []) ∷ []) 0 1 ((0, Old) ∷ [])) ≡ frame 0 (FullLeaf Whole [] (pair "a" "0123456789abcdef" ∷ [])) ∷ []
row_15 = refl

-- ---- prefix-compressed keys

-- a flush of row 4's pages where the log is of version 2; and the upgrade of their log after it has them all
row_4_shared : flush_frames Two (tree pages_of_row_4 2 2 ((0, Old) ∷ [])) ≡ shared_text_of_row_4
row_4_shared = refl

row_4_upgraded : upgrade_frames (tree pages_of_row_4 2 2 ((0, Upto 0) ∷ (1, Upto 0) ∷ (2, Upto 0) ∷ [])) ≡ shared_text_of_row_4
row_4_upgraded = refl

-- a run is written again after its base, and a page in the log that was freed is recorded as freed
runs_upgraded : upgrade_frames (tree (leaf 0 "" ((set "a" "2" ∷ []) ∷ (set "a" "1" ∷ []) ∷ []) [] ∷ []) 0 1 ((0, Upto 1) ∷ (3, Old) ∷ []))
    ≡ frame 0 (FullLeaf PrefixCompressed [] []) ∷ frame 0 (DeltaLeaf (set "a" "1" ∷ [])) ∷ frame 0 (DeltaLeaf (set "a" "2" ∷ [])) ∷ frame 3 Free ∷ []
runs_upgraded = refl
