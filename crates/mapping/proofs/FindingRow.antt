-- What is found in trees that are made by hand, under settings S: rows 6.1 and 13.1 to 13.6, and small trees for each rule.
use Rattle.std.specs.Prelude.{◌≡◌, ℕ, List, [], ◌∷◌, None, length, replicate}
use Rattle.std.proofs.Common.{refl}
use Rattle.keys.proofs.Literals.{S, a, b, c, d, e}
use Rattle.index_page.specs.Page.{PageOfKind}
use Rattle.mapping.specs.Tree.{Tree}
use Rattle.mapping.specs.Levels.{contents}
use Rattle.mapping.specs.Finding.{finding}
use Rattle.mapping.proofs.Literals.{Bytes, pairs, set, gone, leaf, leaf_under, index, index_under, tree, lone_leaf, two_leaves, found}

-- ---- row 6.1: leaf 0 has a and c, leaf 1 has the low key c and the key c, index page 2 has (empty, 0) and (c, 1); an empty
-- leaf 9; root 2, height 2. The key c is out of leaf 0's range. Without it there, page 9 is not reached. Without that too,
-- the tree is proper: 3 pages, height 2, 2 pairs.

abbrev overlapping : Tree
overlapping = tree (leaf 0 [] (pairs (a ∷ c ∷ [])) ∷ leaf 1 c (pairs (c ∷ [])) ∷ index 2 [] (([], 0) ∷ (c, 1) ∷ []) ∷ leaf 9 [] [] ∷ []) 2 2

abbrev one_too_many : Tree
one_too_many = tree (leaf 0 [] (pairs (a ∷ [])) ∷ leaf 1 c (pairs (c ∷ [])) ∷ index 2 [] (([], 0) ∷ (c, 1) ∷ []) ∷ leaf 9 [] [] ∷ []) 2 2

abbrev mended : Tree
mended = tree (leaf 0 [] (pairs (a ∷ [])) ∷ leaf 1 c (pairs (c ∷ [])) ∷ index 2 [] (([], 0) ∷ (c, 1) ∷ []) ∷ []) 2 2

row_6_1_overlapping : finding S overlapping ≡ found 5 0
row_6_1_overlapping = refl

row_6_1_one_too_many : finding S one_too_many ≡ found 10 9
row_6_1_one_too_many = refl

row_6_1_mended : finding S mended ≡ None
row_6_1_mended = refl

row_6_1_pairs : length (contents mended) ≡ 2
row_6_1_pairs = refl

-- ---- rows 13.1 to 13.6: the tree of row 4, damaged

-- its pages, where leaf 1 has this low key, and the root's second entry has this child
abbrev pages_of_row_4 : Bytes → ℕ → List (ℕ × PageOfKind)
pages_of_row_4 low child = leaf 0 [] (pairs (a ∷ b ∷ [])) ∷ leaf 1 low (pairs (c ∷ d ∷ e ∷ [])) ∷ index 2 [] (([], 0) ∷ (c, child) ∷ []) ∷ []

undamaged : finding S (tree (pages_of_row_4 c 1) 2 2) ≡ None
undamaged = refl

-- the low key of page 1 is b
row_13_1 : finding S (tree (pages_of_row_4 b 1) 2 2) ≡ found 4 1
row_13_1 = refl

-- the root's second child is 0, 7, 2
row_13_2 : finding S (tree (pages_of_row_4 c 0) 2 2) ≡ found 4 0
row_13_2 = refl

row_13_3 : finding S (tree (pages_of_row_4 c 7) 2 2) ≡ found 2 7
row_13_3 = refl

row_13_4 : finding S (tree (pages_of_row_4 c 2) 2 2) ≡ found 3 2
row_13_4 = refl

-- the height is 1
row_13_5 : finding S (tree (pages_of_row_4 c 1) 2 1) ≡ found 3 2
row_13_5 = refl

-- the root is 0, and the height 1
row_13_6 : finding S (tree (pages_of_row_4 c 1) 0 1) ≡ found 10 1
row_13_6 = refl

-- ---- rule 2: no such page

no_page : finding S (tree [] 0 1) ≡ found 2 0
no_page = refl

-- ---- rule 3: a leaf above level 1, or an index page on level 1 (row 13.4)

leaf_above : finding S (tree (leaf 0 [] [] ∷ []) 0 2) ≡ found 3 0
leaf_above = refl

-- ---- rule 4: the low key is not the one in the parent's entry (row 13.1); for the root: not empty

root_from_a : finding S (tree (leaf 0 a [] ∷ []) 0 1) ≡ found 4 0
root_from_a = refl

-- ---- rule 5: keys don't rise strictly, or a key lies outside the page's range

falling_base : finding S (lone_leaf [] (pairs (b ∷ a ∷ []))) ≡ found 5 0
falling_base = refl

twice_in_a_run : finding S (lone_leaf ((set a ∷ set a ∷ []) ∷ []) []) ≡ found 5 0
twice_in_a_run = refl

below_its_low_key : finding S (two_leaves (leaf 0 [] []) (leaf 1 c (pairs (b ∷ [])))) ≡ found 5 1
below_its_low_key = refl

absent_past_the_end : finding S (two_leaves (leaf_under 0 [] ((gone d ∷ []) ∷ []) []) (leaf 1 c [])) ≡ found 5 0
absent_past_the_end = refl

-- ---- rule 6: a base or a run of more than fan entries, a run of none, a key or a value that is too long

five_in_the_base : finding S (lone_leaf [] (pairs (a ∷ b ∷ c ∷ d ∷ e ∷ []))) ≡ found 6 0
five_in_the_base = refl

five_in_a_run : finding S (lone_leaf ((set a ∷ set b ∷ set c ∷ set d ∷ set e ∷ []) ∷ []) []) ≡ found 6 0
five_in_a_run = refl

none_in_a_run : finding S (lone_leaf ([] ∷ []) []) ≡ found 6 0
none_in_a_run = refl

abbrev long : ℕ → Bytes
long n = replicate n 97

sixteen_bytes : finding S (lone_leaf [] ((long 16, long 16) ∷ [])) ≡ None
sixteen_bytes = refl

long_key : finding S (lone_leaf ((gone (long 17) ∷ []) ∷ []) []) ≡ found 6 0
long_key = refl

-- a value that a newer run has replaced counts too
long_value : finding S (lone_leaf ((set a ∷ []) ∷ []) ((a, long 17) ∷ [])) ≡ found 6 0
long_value = refl

-- ---- rule 7: the depth is above chain

three_runs : finding S (lone_leaf ((set a ∷ []) ∷ (set a ∷ []) ∷ (set a ∷ []) ∷ []) []) ≡ found 7 0
three_runs = refl

-- ---- rule 8: an index page has no child, or its first child's key is not its low key; the root has fewer than two

lone_child : finding S (tree (leaf 0 [] [] ∷ index 1 [] (([], 0) ∷ []) ∷ []) 1 2) ≡ found 8 1
lone_child = refl

child_taken_away : finding S (tree (leaf 0 [] [] ∷ leaf 1 c [] ∷ index_under 2 [] ((gone c ∷ []) ∷ []) (([], 0) ∷ (c, 1) ∷ []) ∷ []) 2 2) ≡ found 8 2
child_taken_away = refl

first_child_from_a : finding S (tree (leaf 0 a [] ∷ leaf 1 c [] ∷ index 2 [] ((a, 0) ∷ (c, 1) ∷ []) ∷ []) 2 2) ≡ found 8 2
first_child_from_a = refl

-- below the root one child is enough
abbrev three_levels : List (Bytes × ℕ) → Tree
three_levels entries = tree (leaf 0 [] [] ∷ leaf 1 c [] ∷ index 2 [] (([], 0) ∷ []) ∷ index 3 c entries ∷ index 4 [] (([], 2) ∷ (c, 3) ∷ []) ∷ []) 4 3

one_child_each : finding S (three_levels ((c, 1) ∷ [])) ≡ None
one_child_each = refl

no_child : finding S (three_levels []) ≡ found 8 3
no_child = refl

-- ---- rule 9: the walk has visited the pid before: page 3 is its own only child

own_child : finding S (tree (leaf 1 c [] ∷ index 3 [] (([], 3) ∷ []) ∷ index 4 c ((c, 6) ∷ []) ∷ index 5 [] (([], 3) ∷ (c, 4) ∷ []) ∷ index 6 c ((c, 1) ∷ []) ∷ []) 5 4) ≡ found 9 3
own_child = refl

-- ---- rule 10: a page that the walk does not reach; the least of them

unreached : finding S (tree (leaf 0 [] [] ∷ leaf 1 [] [] ∷ leaf 2 [] [] ∷ []) 0 1) ≡ found 10 1
unreached = refl

-- ---- of several findings: a level above comes before those below, there the left page before those to its right, and
-- there the least rule

above_first : finding S (tree (leaf 0 [] (pairs (b ∷ a ∷ [])) ∷ index 1 [] (([], 0) ∷ []) ∷ []) 1 2) ≡ found 8 1
above_first = refl

left_first : finding S (two_leaves (leaf_under 0 [] ((set a ∷ []) ∷ (set a ∷ []) ∷ (set a ∷ []) ∷ []) []) (leaf 1 d [])) ≡ found 7 0
left_first = refl

least_first : finding S (lone_leaf ([] ∷ (set a ∷ []) ∷ (set a ∷ []) ∷ []) (pairs (b ∷ a ∷ []))) ≡ found 5 0
least_first = refl
