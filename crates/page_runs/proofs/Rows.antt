-- The worked rows about one page, evaluated by the checker: fan 4, chain 2. A letter denotes the key of that one byte, and a digit the value of that
-- one byte. docs/EXAMPLES.md numbers the rows.
use Rattle.std.specs.Prelude.{◌≡◌, ℕ, List, [], ◌∷◌, Option, None, Some}
use Rattle.std.proofs.Common.{refl}
use Rattle.keys.specs.Step.{replies_to}
use Rattle.keys.specs.declared.command.Command.{Command}
use Rattle.keys.specs.declared.command.Command.TheVariants.{Put, Add, Del, Scan, Wipe}
use Rattle.keys.specs.declared.command.Reply.{Reply}
use Rattle.keys.specs.declared.command.Reply.TheVariants.{New, Deleted, Missing, Rows, Wiped}
use Rattle.keys.specs.declared.settings.Settings.{Settings}
use Rattle.keys.proofs.Literals.{S, a, b, c, d, e, ca, row_2, row_8, row_16_1}
use Rattle.delta_chain.specs.Layers.{Layers, entries_of, depth_of}
use Rattle.page_runs.specs.AfterRun.{after_run, class_after}
use Rattle.page_runs.specs.NetRun.{net_run}
use Rattle.page_runs.specs.declared.class.Class.{Class}
use Rattle.page_runs.specs.declared.class.Class.TheVariants.{Same, Changed, Thin, Fat}

abbrev Bytes : Type 0
Bytes = List ℕ

abbrev Page : Type 0
Page = Layers Bytes

abbrev Change : Type 0
Change = Bytes × Option Bytes

abbrev Commands : Type 0
Commands = List (Command ℕ)

-- the net run of a batch on a page, the page after it, and its class
abbrev run_on : Page → Commands → List Change
run_on p cs = net_run (entries_of p) cs

abbrev page_after : Page → Commands → Page
page_after p cs = after_run S p (run_on p cs)

abbrev answers_on : Page → Commands → List (Reply ℕ)
answers_on p cs = replies_to (entries_of p) cs

abbrev class_then : Page → Commands → Class
class_then p cs = class_after S p (run_on p cs)

abbrev empty : Page
empty = record { runs = []; base = [] }

-- row 2: a key that is put, changed and deleted within one batch is absent in the run
row_2_run : run_on empty row_2 ≡ (a, None) ∷ []
row_2_run = refl

row_2_page : page_after empty row_2 ≡ record { runs = ((a, None) ∷ []) ∷ []; base = [] }
row_2_page = refl

row_2_depth : depth_of (page_after empty row_2) ≡ 1
row_2_depth = refl

row_2_class : class_then empty row_2 ≡ Changed
row_2_class = refl

-- row 3: an Add of a present key has no entry in the run, and the page is unchanged
abbrev with_a : Page
with_a = record { runs = ((a, Some (49 ∷ [])) ∷ []) ∷ []; base = [] }

row_3_put : page_after empty (Put a (49 ∷ []) ∷ []) ≡ with_a
row_3_put = refl

row_3_run : run_on with_a (Add a (50 ∷ []) ∷ []) ≡ []
row_3_run = refl

row_3_page : page_after with_a (Add a (50 ∷ []) ∷ []) ≡ with_a
row_3_page = refl

row_3_class : class_then with_a (Add a (50 ∷ []) ∷ []) ≡ Same
row_3_class = refl

-- row 6: a run of four entries, as many as fan, is prepended
abbrev row_6 : Commands
row_6 = Put a (49 ∷ []) ∷ Put b (50 ∷ []) ∷ Put c (51 ∷ []) ∷ Put d (52 ∷ []) ∷ []

row_6_page : page_after empty row_6 ≡ record { runs = ((a, Some (49 ∷ [])) ∷ (b, Some (50 ∷ [])) ∷ (c, Some (51 ∷ [])) ∷ (d, Some (52 ∷ [])) ∷ []) ∷ []; base = [] }
row_6_page = refl

row_6_depth : depth_of (page_after empty row_6) ≡ 1
row_6_depth = refl

row_6_class : class_then empty row_6 ≡ Changed
row_6_class = refl

-- row 7: the third of three batches has the page replaced, and one entry is not thin
abbrev second : Page
second = page_after with_a (Put a (50 ∷ []) ∷ [])

row_7_second : second ≡ record { runs = ((a, Some (50 ∷ [])) ∷ []) ∷ ((a, Some (49 ∷ [])) ∷ []) ∷ []; base = [] }
row_7_second = refl

row_7_depth : depth_of second ≡ 2
row_7_depth = refl

row_7_third : page_after second (Put a (51 ∷ []) ∷ []) ≡ record { runs = []; base = (a, 51 ∷ []) ∷ [] }
row_7_third = refl

row_7_class : class_then second (Put a (51 ∷ []) ∷ []) ≡ Changed
row_7_class = refl

-- one key more than in row 6: the run is longer than fan, and the page is replaced by one that is too long
abbrev five_puts : Commands
five_puts = Put a (49 ∷ []) ∷ Put b (50 ∷ []) ∷ Put c (51 ∷ []) ∷ Put d (52 ∷ []) ∷ Put e (53 ∷ []) ∷ []

five_puts_page : page_after empty five_puts ≡ record { runs = []; base = (a, 49 ∷ []) ∷ (b, 50 ∷ []) ∷ (c, 51 ∷ []) ∷ (d, 52 ∷ []) ∷ (e, 53 ∷ []) ∷ [] }
five_puts_page = refl

five_puts_class : class_then empty five_puts ≡ Fat
five_puts_class = refl

-- the third batch deletes the last key: no entry remains, and the page is thin
row_7_gone : page_after second (Del a ∷ []) ≡ empty
row_7_gone = refl

row_7_gone_class : class_then second (Del a ∷ []) ≡ Thin
row_7_gone_class = refl

-- at fan 16 a replaced page of four entries isn't thin, and one of three is
abbrev wide : Settings
wide = record { fan = 16; chain = 1; max_key = 16; max_value = 16; seg_size = 1024; segments = 4 }

abbrev three_in_front : Page
three_in_front = record { runs = ((a, Some (49 ∷ [])) ∷ (b, Some (50 ∷ [])) ∷ (c, Some (51 ∷ [])) ∷ []) ∷ []; base = [] }

fourth_comes : after_run wide three_in_front (run_on three_in_front (Put d (52 ∷ []) ∷ [])) ≡ record { runs = []; base = (a, 49 ∷ []) ∷ (b, 50 ∷ []) ∷ (c, 51 ∷ []) ∷ (d, 52 ∷ []) ∷ [] }
fourth_comes = refl

fourth_comes_class : class_after wide three_in_front (run_on three_in_front (Put d (52 ∷ []) ∷ [])) ≡ Changed
fourth_comes_class = refl

first_changes : after_run wide three_in_front (run_on three_in_front (Put a (52 ∷ []) ∷ [])) ≡ record { runs = []; base = (a, 52 ∷ []) ∷ (b, 50 ∷ []) ∷ (c, 51 ∷ []) ∷ [] }
first_changes = refl

first_changes_class : class_after wide three_in_front (run_on three_in_front (Put a (52 ∷ []) ∷ [])) ≡ Thin
first_changes_class = refl

-- row 8: the second page of a store at fan 4, from the key c on: its part of the scans' rows
abbrev from_c : Page
from_c = record { runs = []; base = (c, 51 ∷ []) ∷ (d, 52 ∷ []) ∷ (e, 53 ∷ []) ∷ [] }

row_8_replies : replies_to (entries_of from_c) row_8
    ≡ Rows ((c, 51 ∷ []) ∷ (d, 52 ∷ []) ∷ (e, 53 ∷ []) ∷ []) ∷ Deleted ∷ Rows [] ∷ New ∷ Rows ((ca, 57 ∷ []) ∷ (d, 52 ∷ []) ∷ []) ∷ []
row_8_replies = refl

row_8_run : run_on from_c row_8 ≡ (c, None) ∷ (ca, Some (57 ∷ [])) ∷ []
row_8_run = refl

row_8_page : page_after from_c row_8 ≡ record { runs = ((c, None) ∷ (ca, Some (57 ∷ [])) ∷ []) ∷ []; base = from_c.base }
row_8_page = refl

-- row 16.1: after a wipe of b to d, the leaf before c has b absent
abbrev left_leaf : Page
left_leaf = record { runs = []; base = (a, 49 ∷ []) ∷ (b, 50 ∷ []) ∷ [] }

row_16_1_left : run_on left_leaf (Wipe b (Some d) ∷ Scan [] None 10 ∷ []) ≡ (b, None) ∷ []
row_16_1_left = refl

row_16_1_left_replies : answers_on left_leaf (Wipe b (Some d) ∷ Scan [] None 10 ∷ []) ≡ Wiped 1 ∷ Rows ((a, 49 ∷ []) ∷ []) ∷ []
row_16_1_left_replies = refl

-- and the leaf from c on has the pair that was put after the wipe, and the earlier ones absent
abbrev right_leaf : Page
right_leaf = record { runs = []; base = (c, 51 ∷ []) ∷ (d, 52 ∷ []) ∷ (e, 53 ∷ []) ∷ [] }

row_16_1_right : run_on right_leaf row_16_1 ≡ (c, Some (55 ∷ [])) ∷ (ca, None) ∷ []
row_16_1_right = refl

row_16_1_right_replies : answers_on right_leaf row_16_1 ≡ New ∷ Wiped 2 ∷ Missing ∷ New ∷ Rows ((c, 55 ∷ []) ∷ (d, 52 ∷ []) ∷ (e, 53 ∷ []) ∷ []) ∷ []
row_16_1_right_replies = refl

-- row 16.2: a leaf that loses everything has depth 1, and the second time it stays as it is
abbrev wiped_leaf : Page
wiped_leaf = page_after right_leaf (Wipe [] None ∷ [])

row_16_2_depth : depth_of wiped_leaf ≡ 1
row_16_2_depth = refl

row_16_2_page : wiped_leaf ≡ record { runs = ((c, None) ∷ (d, None) ∷ (e, None) ∷ []) ∷ []; base = (c, 51 ∷ []) ∷ (d, 52 ∷ []) ∷ (e, 53 ∷ []) ∷ [] }
row_16_2_page = refl

row_16_2_run : run_on wiped_leaf (Wipe [] None ∷ []) ≡ []
row_16_2_run = refl

row_16_2_class : class_then wiped_leaf (Wipe [] None ∷ []) ≡ Same
row_16_2_class = refl

-- a key that was put and deleted before the wipe is not counted, and no key is absent that never was present
put_and_gone : answers_on left_leaf (Put d (49 ∷ []) ∷ Del d ∷ Wipe b None ∷ []) ≡ New ∷ Deleted ∷ Wiped 1 ∷ []
put_and_gone = refl

put_and_gone_run : run_on left_leaf (Put d (49 ∷ []) ∷ Del d ∷ Wipe b None ∷ []) ≡ (b, None) ∷ (d, None) ∷ []
put_and_gone_run = refl

nothing_there : run_on left_leaf (Wipe c None ∷ []) ≡ []
nothing_there = refl
