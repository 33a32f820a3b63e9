-- The worked rows of trees of one level or two. docs/EXAMPLES.md numbers them.
use Rattle.std.specs.Prelude.{◌≡◌, [], ◌∷◌, None, List, Some}
use Rattle.std.proofs.Common.{refl}
use Rattle.keys.proofs.Literals.{S, a, b, c, d, e, T, f, g, h, i, j, k, l, m, n, o, p, ca}
use Rattle.mapping.specs.Tree.{first_tree, Tree, logged_of}
use Rattle.mapping.specs.Tree.Logged.{Old, No}
use Rattle.mapping.specs.Finding.{finding}
use Rattle.mapping.specs.Levels.{contents}
use Rattle.mapping.proofs.Literals.{leaf, tree, gone, leaf_under, index_under, index}
use Rattle.climb_plan.proofs.Literals.{with_log, fresh, after, five_puts, tree_of_five, Batch, put, del, del_all, put_ones, pair, set, ones, bases_of}

-- Row 4: one batch of five puts, a 1 to e 5, into an empty store. Leaf 0 has a and b; leaf 1 has c, d and e, and the low
-- key c; the root 2 has (empty, 0) and (c, 1); height 2. The log had the base of the empty leaf.

row_4 : after S fresh (five_puts ∷ []) ≡ tree_of_five
row_4 = refl

row_4_logged : after S first_tree (five_puts ∷ []) ≡ with_log ((0, Old) ∷ []) tree_of_five
row_4_logged = refl

row_4_is_proper : finding S tree_of_five ≡ None
row_4_is_proper = refl

-- Row 4.2: after row 4, three batches: one deletes a to e; `put a 1, put e 1`; `del a, del e`. Both leaves are thin, and are
-- one group: pids 1 and 2 are freed; root 0, height 1, no pairs.

abbrev batches_4_2 : List Batch
batches_4_2 = five_puts ∷ del_all (a ∷ b ∷ c ∷ d ∷ e ∷ []) ∷ (put a 1 ∷ put e 1 ∷ []) ∷ (del a ∷ del e ∷ []) ∷ []

abbrev tree_4_2 : Tree
tree_4_2 = tree (leaf 0 [] [] ∷ []) 0 1

row_4_2 : after S fresh batches_4_2 ≡ tree_4_2
row_4_2 = refl

row_4_2_is_proper : finding S tree_4_2 ≡ None
row_4_2_is_proper = refl

row_4_2_pairs : contents tree_4_2 ≡ []
row_4_2_pairs = refl

-- Row 4.3, under settings T: one batch of sixteen puts, a to p, each with the value 1, makes the leaves 0 (a to h) and 1 (i
-- to p), and the root 2. Then one batch deletes j to p, and one is `put i 2`. Leaf 1 is thin and joins leaf 0; nine entries
-- are cut into a to d (pid 0) and e to i (pid 3, low key e). Pid 1 is freed, and wasn't used again in this batch. The root
-- has one run, with e present (3) and i absent.

abbrev sixteen_puts : Batch
sixteen_puts = put_ones (a ∷ b ∷ c ∷ d ∷ e ∷ f ∷ g ∷ h ∷ i ∷ j ∷ k ∷ l ∷ m ∷ n ∷ o ∷ p ∷ [])

abbrev cut_once : Tree
cut_once = tree (
    leaf 0 [] (ones (a ∷ b ∷ c ∷ d ∷ e ∷ f ∷ g ∷ h ∷ [])) ∷
    leaf 1 i (ones (i ∷ j ∷ k ∷ l ∷ m ∷ n ∷ o ∷ p ∷ [])) ∷
    index 2 [] (([], 0) ∷ (i, 1) ∷ []) ∷ []) 2 2

row_4_3_before : after T fresh (sixteen_puts ∷ []) ≡ cut_once
row_4_3_before = refl

abbrev batches_4_3 : List Batch
batches_4_3 = del_all (j ∷ k ∷ l ∷ m ∷ n ∷ o ∷ p ∷ []) ∷ (put i 2 ∷ []) ∷ []

abbrev cut_again : Tree
cut_again = tree (
    leaf 0 [] (ones (a ∷ b ∷ c ∷ d ∷ [])) ∷
    index_under 2 [] (((e, Some 3) ∷ gone i ∷ []) ∷ []) (([], 0) ∷ (i, 1) ∷ []) ∷
    leaf 3 e (pair e 1 ∷ pair f 1 ∷ pair g 1 ∷ pair h 1 ∷ pair i 2 ∷ []) ∷ []) 2 2

row_4_3 : after T fresh (sixteen_puts ∷ batches_4_3) ≡ cut_again
row_4_3 = refl

row_4_3_is_proper : finding T cut_again ≡ None
row_4_3_is_proper = refl

-- Beside it, a low key that is both freed and a new piece's: leaf 0 has a to e, and each of leaves 1 to 5 has one of f to j,
-- in a run. One batch puts f to j: these five leaves are replaced, are thin and join leaf 0, and ten entries are cut before
-- f. So in the root's run f is present.
abbrev six_leaves : Tree
six_leaves = tree (
    leaf 0 [] (ones (a ∷ b ∷ c ∷ d ∷ e ∷ [])) ∷
    leaf_under 1 f ((set f 0 ∷ []) ∷ []) [] ∷
    leaf_under 2 g ((set g 0 ∷ []) ∷ []) [] ∷
    leaf_under 3 h ((set h 0 ∷ []) ∷ []) [] ∷
    leaf_under 4 i ((set i 0 ∷ []) ∷ []) [] ∷
    leaf_under 5 j ((set j 0 ∷ []) ∷ []) [] ∷
    index 6 [] (([], 0) ∷ (f, 1) ∷ (g, 2) ∷ (h, 3) ∷ (i, 4) ∷ (j, 5) ∷ []) ∷ []) 6 2

abbrev cut_before_f : Tree
cut_before_f = tree (
    leaf 0 [] (ones (a ∷ b ∷ c ∷ d ∷ e ∷ [])) ∷
    index_under 6 [] (((f, Some 7) ∷ gone g ∷ gone h ∷ gone i ∷ gone j ∷ []) ∷ []) (([], 0) ∷ (f, 1) ∷ (g, 2) ∷ (h, 3) ∷ (i, 4) ∷ (j, 5) ∷ []) ∷
    leaf 7 f (ones (f ∷ g ∷ h ∷ i ∷ j ∷ [])) ∷ []) 6 2

low_key_of_both : after T six_leaves (put_ones (f ∷ g ∷ h ∷ i ∷ j ∷ []) ∷ []) ≡ cut_before_f
low_key_of_both = refl

low_key_of_both_is_proper : finding T cut_before_f ≡ None
low_key_of_both_is_proper = refl

-- Row 8, without its scans: after row 4, one batch of `del c, put ca 9`. Leaf 0 is unchanged; leaf 1 has a run in which c
-- is absent and ca has 9.

abbrev tree_8 : Tree
tree_8 = tree (
    leaf 0 [] (pair a 1 ∷ pair b 2 ∷ []) ∷
    leaf_under 1 c ((gone c ∷ set ca 9 ∷ []) ∷ []) (pair c 3 ∷ pair d 4 ∷ pair e 5 ∷ []) ∷
    index 2 [] (([], 0) ∷ (c, 1) ∷ []) ∷ []) 2 2

row_8 : after S fresh (five_puts ∷ (del c ∷ put ca 9 ∷ []) ∷ []) ≡ tree_8
row_8 = refl

row_8_is_proper : finding S tree_8 ≡ None
row_8_is_proper = refl

-- Row 9: after row 4 with its flush, three batches: one deletes a to e; `put a 1`; `del a`. In the third leaf 0 is replaced
-- and has no entries, so it is thin and joins leaf 1; pids 1 and 2 are freed; root 0, height 1, depth 0. The log had the
-- bases of all three pages, and what it has of them now is old.

abbrev flushed_4 : Tree
flushed_4 = with_log (bases_of (0 ∷ 1 ∷ 2 ∷ [])) (after S fresh (five_puts ∷ []))

abbrev batches_9 : List Batch
batches_9 = del_all (a ∷ b ∷ c ∷ d ∷ e ∷ []) ∷ (put a 1 ∷ []) ∷ []

abbrev last_9 : Batch
last_9 = del a ∷ []

-- runs in front do not change log states
row_9_before : after S flushed_4 batches_9 ≡ with_log (bases_of (0 ∷ 1 ∷ 2 ∷ [])) (tree (
    leaf_under 0 [] ((set a 1 ∷ []) ∷ (gone a ∷ gone b ∷ []) ∷ []) (pair a 1 ∷ pair b 2 ∷ []) ∷
    leaf_under 1 c ((gone c ∷ gone d ∷ gone e ∷ []) ∷ []) (pair c 3 ∷ pair d 4 ∷ pair e 5 ∷ []) ∷
    index 2 [] (([], 0) ∷ (c, 1) ∷ []) ∷ []) 2 2)
row_9_before = refl

row_9 : after S (after S flushed_4 batches_9) (last_9 ∷ []) ≡ with_log ((0, Old) ∷ (1, Old) ∷ (2, Old) ∷ []) (tree (leaf 0 [] [] ∷ []) 0 1)
row_9 = refl

row_9_is_proper : finding S (tree (leaf 0 [] [] ∷ []) 0 1) ≡ None
row_9_is_proper = refl

-- Row 10: after row 9 with its flush, row 4's batch again. The pids 1 and 2 are used again, and the pages are as in row 4.
-- The log had the base of page 0 alone: that is no longer the page's, and of pages 1 and 2 it still has nothing.

-- row 4 and row 9, without their flushes
abbrev tree_9 : Tree
tree_9 = after S fresh (five_puts ∷ del_all (a ∷ b ∷ c ∷ d ∷ e ∷ []) ∷ (put a 1 ∷ []) ∷ (del a ∷ []) ∷ [])

abbrev tree_10 : Tree
tree_10 = after S (with_log (bases_of (0 ∷ [])) tree_9) (five_puts ∷ [])

row_10 : tree_10 ≡ with_log ((0, Old) ∷ []) tree_of_five
row_10 = refl

row_10_page_1 : logged_of tree_10 1 ≡ No
row_10_page_1 = refl

row_10_page_2 : logged_of tree_10 2 ≡ No
row_10_page_2 = refl

-- without row 9's flush a fresh pid keeps what the log has of it too: a page that is no longer there
row_10_unflushed : after S (with_log ((0, Old) ∷ (1, Old) ∷ (2, Old) ∷ []) tree_9) (five_puts ∷ []) ≡ with_log ((0, Old) ∷ (1, Old) ∷ (2, Old) ∷ []) tree_of_five
row_10_unflushed = refl

-- Row 12: after row 4, `put a 9`: leaf 0 has one run, and the other pages are unchanged.

abbrev tree_12 : Tree
tree_12 = tree (
    leaf_under 0 [] ((set a 9 ∷ []) ∷ []) (pair a 1 ∷ pair b 2 ∷ []) ∷
    leaf 1 c (pair c 3 ∷ pair d 4 ∷ pair e 5 ∷ []) ∷
    index 2 [] (([], 0) ∷ (c, 1) ∷ []) ∷ []) 2 2

row_12 : after S fresh (five_puts ∷ (put a 9 ∷ []) ∷ []) ≡ tree_12
row_12 = refl

row_12_is_proper : finding S tree_12 ≡ None
row_12_is_proper = refl
