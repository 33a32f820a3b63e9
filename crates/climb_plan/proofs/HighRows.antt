-- The worked rows of trees of three levels. docs/EXAMPLES.md numbers them.
use Rattle.std.specs.Prelude.{◌≡◌, [], ◌∷◌, None, length, List, ℕ, ◌+◌, ◌++◌, map, Some}
use Rattle.std.proofs.Common.{refl}
use Rattle.keys.proofs.Literals.{S, a, b, c, d, e, f, g, h, i, j, k, l, m, n, o, p, q}
use Rattle.mapping.specs.Tree.{Tree}
use Rattle.mapping.specs.Levels.{contents}
use Rattle.mapping.specs.Finding.{finding}
use Rattle.mapping.specs.Tree.Logged.{Old, Upto}
use Rattle.mapping.proofs.Literals.{leaf, index, tree, gone, index_under}
use Rattle.climb_plan.proofs.Literals.{ones, fresh, after, seventeen_puts, Batch, put, del, del_all, with_log, bases_of, Bytes, pair}

-- Row 5: one batch of seventeen puts, a to q, each with the value 1, into an empty store. The leaves 0 to 4 have 3, 3, 4,
-- 3 and 4 entries, and the low keys empty, d, g, k and n; index page 5 has (empty, 0) and (d, 1); index page 6 has (g, 2),
-- (k, 3) and (n, 4); the root is 7; height 3. That is 17 pairs in a proper tree.

abbrev tree_5 : Tree
tree_5 = tree (
    leaf 0 [] (ones (a ∷ b ∷ c ∷ [])) ∷
    leaf 1 d (ones (d ∷ e ∷ f ∷ [])) ∷
    leaf 2 g (ones (g ∷ h ∷ i ∷ j ∷ [])) ∷
    leaf 3 k (ones (k ∷ l ∷ m ∷ [])) ∷
    leaf 4 n (ones (n ∷ o ∷ p ∷ q ∷ [])) ∷
    index 5 [] (([], 0) ∷ (d, 1) ∷ []) ∷
    index 6 g ((g, 2) ∷ (k, 3) ∷ (n, 4) ∷ []) ∷
    index 7 [] (([], 5) ∷ (g, 6) ∷ []) ∷ []) 7 3

row_5 : after S fresh (seventeen_puts ∷ []) ≡ tree_5
row_5 = refl

row_5_is_proper : finding S tree_5 ≡ None
row_5_is_proper = refl

row_5_pairs : length (contents tree_5) ≡ 17
row_5_pairs = refl

-- Row 4.1: after row 5, three batches: `del a, del b, del c`; `put a 1`; `del a`. Leaf 0 is thin and is the first leaf, so it joins leaf 1: pid 0 has
-- d, e and f, and the empty low key; pid 1 is freed; page 5 has one run, which deletes d. The result is a proper tree with 7 pages, height 3 and 14
-- pairs.

abbrev batches_4_1 : List Batch
batches_4_1 = seventeen_puts ∷ del_all (a ∷ b ∷ c ∷ []) ∷ (put a 1 ∷ []) ∷ (del a ∷ []) ∷ []

abbrev tree_4_1 : Tree
tree_4_1 = tree (
    leaf 0 [] (ones (d ∷ e ∷ f ∷ [])) ∷
    leaf 2 g (ones (g ∷ h ∷ i ∷ j ∷ [])) ∷
    leaf 3 k (ones (k ∷ l ∷ m ∷ [])) ∷
    leaf 4 n (ones (n ∷ o ∷ p ∷ q ∷ [])) ∷
    index_under 5 [] ((gone d ∷ []) ∷ []) (([], 0) ∷ (d, 1) ∷ []) ∷
    index 6 g ((g, 2) ∷ (k, 3) ∷ (n, 4) ∷ []) ∷
    index 7 [] (([], 5) ∷ (g, 6) ∷ []) ∷ []) 7 3

row_4_1 : after S fresh batches_4_1 ≡ tree_4_1
row_4_1 = refl

row_4_1_is_proper : finding S tree_4_1 ≡ None
row_4_1_is_proper = refl

row_4_1_pages : length tree_4_1.pages ≡ 7
row_4_1_pages = refl

row_4_1_pairs : length (contents tree_4_1) ≡ 14
row_4_1_pairs = refl

-- Row 13: after row 5 with its flush, three batches: `del d, del e, del f`; `put d 1`; `del d`. Leaf 1 is thin and joins
-- leaf 0; pid 1 is freed; page 5 keeps one child, and has a run in which d is absent. That is 7 pages, height 3, 14 pairs in
-- a proper tree. The log had the bases of all eight pages; it no longer has those of 0 and 1.

abbrev flushed_5 : Tree
flushed_5 = with_log (bases_of (0 ∷ 1 ∷ 2 ∷ 3 ∷ 4 ∷ 5 ∷ 6 ∷ 7 ∷ [])) (after S fresh (seventeen_puts ∷ []))

abbrev batches_13 : List Batch
batches_13 = del_all (d ∷ e ∷ f ∷ []) ∷ (put d 1 ∷ []) ∷ (del d ∷ []) ∷ []

abbrev pub tree_13 : Tree
tree_13 = tree (
    leaf 0 [] (ones (a ∷ b ∷ c ∷ [])) ∷
    leaf 2 g (ones (g ∷ h ∷ i ∷ j ∷ [])) ∷
    leaf 3 k (ones (k ∷ l ∷ m ∷ [])) ∷
    leaf 4 n (ones (n ∷ o ∷ p ∷ q ∷ [])) ∷
    index_under 5 [] ((gone d ∷ []) ∷ []) (([], 0) ∷ (d, 1) ∷ []) ∷
    index 6 g ((g, 2) ∷ (k, 3) ∷ (n, 4) ∷ []) ∷
    index 7 [] (([], 5) ∷ (g, 6) ∷ []) ∷ []) 7 3

row_13 : after S flushed_5 batches_13 ≡ with_log ((0, Old) ∷ (1, Old) ∷ bases_of (2 ∷ 3 ∷ 4 ∷ 5 ∷ 6 ∷ 7 ∷ [])) tree_13
row_13 = refl

row_13_is_proper : finding S tree_13 ≡ None
row_13_is_proper = refl

row_13_pages : length tree_13.pages ≡ 7
row_13_pages = refl

row_13_pairs : length (contents tree_13) ≡ 14
row_13_pairs = refl

-- After row 13 with a flush, where pid 1 is unused and the log still has an old page of it: one batch puts d, da, db, e and f, which go to
-- leaf 0 under page 5, and seventeen keys after q, which go to leaf 4 under page 6. Both leaves are cut in this batch: leaf 0
-- into two pieces, leaf 4, of 21 entries, into six. So page 6 has eight children, and is cut into two. The new pages are
-- numbered from left to right, first the leaves and then the level above: 1 under page 5, 8 to 12 under page 6 and its new
-- neighbour, then that neighbour, 13. Page 5 and the root get a run in front.

abbrev da : Bytes
da = 100 ∷ 97 ∷ []

abbrev db : Bytes
db = 100 ∷ 98 ∷ []

-- the key of q and one byte more, the digit x or one after the digits
abbrev qx : ℕ → Bytes
qx x = 113 ∷ (48 + x) ∷ []

abbrev two : Bytes → Bytes × Bytes
two key = pair key 2

abbrev big_batch : Batch
big_batch = map (λ key. put key 2) (d ∷ da ∷ db ∷ e ∷ f ∷ qx 1 ∷ qx 2 ∷ qx 3 ∷ qx 4 ∷ qx 5 ∷ qx 6 ∷ qx 7 ∷ qx 8 ∷ qx 9 ∷ qx 10 ∷ qx 11 ∷ qx 12 ∷ qx 13 ∷ qx 14 ∷ qx 15 ∷ qx 16 ∷ qx 17 ∷ [])

abbrev cut_twice : Tree
cut_twice = tree (
    leaf 0 [] (ones (a ∷ b ∷ c ∷ []) ++ two d ∷ []) ∷
    leaf 1 da (map two (da ∷ db ∷ e ∷ f ∷ [])) ∷
    leaf 2 g (ones (g ∷ h ∷ i ∷ j ∷ [])) ∷
    leaf 3 k (ones (k ∷ l ∷ m ∷ [])) ∷
    leaf 4 n (ones (n ∷ o ∷ p ∷ [])) ∷
    index_under 5 [] (((da, Some 1) ∷ []) ∷ (gone d ∷ []) ∷ []) (([], 0) ∷ (d, 1) ∷ []) ∷
    index 6 g ((g, 2) ∷ (k, 3) ∷ (n, 4) ∷ (q, 8) ∷ []) ∷
    index_under 7 [] (((qx 4, Some 13) ∷ []) ∷ []) (([], 5) ∷ (g, 6) ∷ []) ∷
    leaf 8 q (pair q 1 ∷ map two (qx 1 ∷ qx 2 ∷ qx 3 ∷ [])) ∷
    leaf 9 (qx 4) (map two (qx 4 ∷ qx 5 ∷ qx 6 ∷ [])) ∷
    leaf 10 (qx 7) (map two (qx 7 ∷ qx 8 ∷ qx 9 ∷ qx 10 ∷ [])) ∷
    leaf 11 (qx 11) (map two (qx 11 ∷ qx 12 ∷ qx 13 ∷ [])) ∷
    leaf 12 (qx 14) (map two (qx 14 ∷ qx 15 ∷ qx 16 ∷ qx 17 ∷ [])) ∷
    index 13 (qx 4) ((qx 4, 9) ∷ (qx 7, 10) ∷ (qx 11, 11) ∷ (qx 14, 12) ∷ []) ∷ []) 7 3

abbrev flushed_13 : Tree
flushed_13 = with_log ((0, Upto 0) ∷ (1, Old) ∷ (2, Upto 0) ∷ (3, Upto 0) ∷ (4, Upto 0) ∷ (5, Upto 1) ∷ (6, Upto 0) ∷ (7, Upto 0) ∷ []) tree_13

cut_under_two_parents : after S flushed_13 (big_batch ∷ []) ≡ with_log ((0, Old) ∷ (1, Old) ∷ (2, Upto 0) ∷ (3, Upto 0) ∷ (4, Old) ∷ (5, Upto 1) ∷ (6, Old) ∷ (7, Upto 0) ∷ []) cut_twice
cut_under_two_parents = refl

cut_under_two_parents_is_proper : finding S cut_twice ≡ None
cut_under_two_parents_is_proper = refl
