-- The worked rows about commands, evaluated by the checker. A letter denotes the key of that one byte, and a digit the value of that one byte.
-- docs/EXAMPLES.md numbers the rows.
use Rattle.std.specs.Prelude.{◌≡◌, ℕ, List, [], ◌∷◌, Some, None}
use Rattle.std.proofs.Common.{refl}
use Rattle.keys.specs.Step.{replies_to, map_after_all}
use Rattle.keys.specs.declared.command.Command.{Command}
use Rattle.keys.specs.declared.command.Command.TheVariants.{Put, Add, Del, Scan, Wipe}
use Rattle.keys.specs.declared.command.Reply.{Reply}
use Rattle.keys.specs.declared.command.Reply.TheVariants.{Value, Missing, New, Replaced, Exists, Added, Deleted, Rows, Wiped}
use Rattle.keys.proofs.Literals.{a, b, c, d, e, f, g, h, i, j, k, l, m, n, o, p, q, ca, row_2, row_8, row_16_1}

abbrev Bytes : Type 0
Bytes = List ℕ

abbrev Pairs : Type 0
Pairs = List (Bytes × Bytes)

abbrev Commands : Type 0
Commands = List (Command ℕ)

abbrev Replies : Type 0
Replies = List (Reply ℕ)

-- the replies to commands on these pairs, and the pairs that they leave
abbrev replies : Pairs → Commands → Replies
replies m cs = replies_to m cs

abbrev left : Pairs → Commands → Pairs
left m cs = map_after_all m cs

-- row 2: a key that is put, changed and deleted within one batch
row_2_replies : replies [] row_2 ≡ Missing ∷ New ∷ Value (49 ∷ []) ∷ Replaced ∷ Value (50 ∷ []) ∷ Deleted ∷ Missing ∷ []
row_2_replies = refl

row_2_map : left [] row_2 ≡ []
row_2_map = refl

-- row 3: an Add that finds the key changes nothing
row_3_replies : replies [] (Put a (49 ∷ []) ∷ Add a (50 ∷ []) ∷ Add b (51 ∷ []) ∷ []) ≡ New ∷ Exists ∷ Added ∷ []
row_3_replies = refl

row_3_map : left [] (Put a (49 ∷ []) ∷ Add a (50 ∷ []) ∷ Add b (51 ∷ []) ∷ []) ≡ (a, 49 ∷ []) ∷ (b, 51 ∷ []) ∷ []
row_3_map = refl

-- row 4: five new keys
abbrev row_4 : Commands
row_4 = Put a (49 ∷ []) ∷ Put b (50 ∷ []) ∷ Put c (51 ∷ []) ∷ Put d (52 ∷ []) ∷ Put e (53 ∷ []) ∷ []

abbrev five : Pairs
five = (a, 49 ∷ []) ∷ (b, 50 ∷ []) ∷ (c, 51 ∷ []) ∷ (d, 52 ∷ []) ∷ (e, 53 ∷ []) ∷ []

-- row 1: no commands
no_commands : left five [] ≡ five
no_commands = refl

row_4_replies : replies [] row_4 ≡ New ∷ New ∷ New ∷ New ∷ New ∷ []
row_4_replies = refl

row_4_map : left [] row_4 ≡ five
row_4_map = refl

-- the same keys in another order leave the same map
row_4_reversed : left [] (Put e (53 ∷ []) ∷ Put c (51 ∷ []) ∷ Put d (52 ∷ []) ∷ Put a (49 ∷ []) ∷ Put b (50 ∷ []) ∷ []) ≡ five
row_4_reversed = refl

-- row 7: the first put of a key is new, the later ones replace
row_7_replies : replies [] (Put a (49 ∷ []) ∷ Put a (50 ∷ []) ∷ Put a (51 ∷ []) ∷ []) ≡ New ∷ Replaced ∷ Replaced ∷ []
row_7_replies = refl

row_7_map : left [] (Put a (49 ∷ []) ∷ Put a (50 ∷ []) ∷ Put a (51 ∷ []) ∷ []) ≡ (a, 51 ∷ []) ∷ []
row_7_map = refl

-- row 9: all keys are deleted, one of them is put and deleted again
abbrev row_9 : Commands
row_9 = Del a ∷ Del b ∷ Del c ∷ Del d ∷ Del e ∷ Put a (49 ∷ []) ∷ Del a ∷ []

row_9_replies : replies five row_9 ≡ Deleted ∷ Deleted ∷ Deleted ∷ Deleted ∷ Deleted ∷ New ∷ Deleted ∷ []
row_9_replies = refl

row_9_map : left five row_9 ≡ []
row_9_map = refl

-- the empty key is the least, and a proper beginning of a key comes before it
beginnings_first : left [] (Put (97 ∷ 0 ∷ []) [] ∷ Put (97 ∷ []) [] ∷ Put [] [] ∷ []) ≡ ([], []) ∷ (97 ∷ [], []) ∷ (97 ∷ 0 ∷ [], []) ∷ []
beginnings_first = refl

-- row 8: a scan sees the commands before it in the batch
abbrev row_8_pairs : Pairs
row_8_pairs = (a, 49 ∷ []) ∷ (b, 50 ∷ []) ∷ (c, 51 ∷ []) ∷ (d, 52 ∷ []) ∷ (e, 53 ∷ []) ∷ []

row_8_replies : replies row_8_pairs row_8 ≡ Rows row_8_pairs ∷ Deleted ∷ Rows ((b, 50 ∷ []) ∷ []) ∷ New ∷ Rows ((b, 50 ∷ []) ∷ (ca, 57 ∷ []) ∷ []) ∷ []
row_8_replies = refl

row_8_map : left row_8_pairs row_8 ≡ (a, 49 ∷ []) ∷ (b, 50 ∷ []) ∷ (ca, 57 ∷ []) ∷ (d, 52 ∷ []) ∷ (e, 53 ∷ []) ∷ []
row_8_map = refl

-- a scan between a bound and a lesser one, and one that may have no rows
row_8_empty : replies row_8_pairs (Scan d (Some b) 10 ∷ Scan a None 0 ∷ Scan a (Some a) 5 ∷ []) ≡ Rows [] ∷ Rows [] ∷ Rows [] ∷ []
row_8_empty = refl

-- row 16.1: a wipe between a put before it and a put after it
row_16_1_replies : replies row_8_pairs row_16_1 ≡ New ∷ Wiped 3 ∷ Missing ∷ New ∷ Rows ((a, 49 ∷ []) ∷ (c, 55 ∷ []) ∷ (d, 52 ∷ []) ∷ (e, 53 ∷ []) ∷ []) ∷ []
row_16_1_replies = refl

row_16_1_map : left row_8_pairs row_16_1 ≡ (a, 49 ∷ []) ∷ (c, 55 ∷ []) ∷ (d, 52 ∷ []) ∷ (e, 53 ∷ []) ∷ []
row_16_1_map = refl

-- row 16.2: everything is deleted, and the second time there is nothing
abbrev one : List ℕ
one = 49 ∷ []

abbrev seventeen : Pairs
seventeen = (a, one) ∷ (b, one) ∷ (c, one) ∷ (d, one) ∷ (e, one) ∷ (f, one) ∷ (g, one) ∷ (h, one) ∷ (i, one) ∷ (j, one) ∷ (k, one) ∷ (l, one) ∷ (m, one) ∷ (n, one) ∷ (o, one) ∷ (p, one) ∷ (q, one) ∷ []

row_16_2_replies : replies seventeen (Wipe [] None ∷ Wipe [] None ∷ []) ≡ Wiped 17 ∷ Wiped 0 ∷ []
row_16_2_replies = refl

row_16_2_map : left seventeen (Wipe [] None ∷ Wipe [] None ∷ []) ≡ []
row_16_2_map = refl

-- the upper bound is kept, and so is everything if the range is empty
wiped_up_to : replies five (Wipe b (Some c) ∷ Wipe d (Some b) ∷ Wipe e (Some e) ∷ Wipe e None ∷ []) ≡ Wiped 1 ∷ Wiped 0 ∷ Wiped 0 ∷ Wiped 1 ∷ []
wiped_up_to = refl

left_up_to : left five (Wipe b (Some c) ∷ Wipe d (Some b) ∷ Wipe e (Some e) ∷ Wipe e None ∷ []) ≡ (a, 49 ∷ []) ∷ (c, 51 ∷ []) ∷ (d, 52 ∷ []) ∷ []
left_up_to = refl
