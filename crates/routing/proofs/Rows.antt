-- Which commands go to which page: examples.
use Rattle.std.specs.Prelude.{◌≡◌, ℕ, Bool, true, false, not, List, [], ◌∷◌, Some, None}
use Rattle.std.proofs.Common.{refl}
use Rattle.std.specs.declared.alloc.Global.{Global}
use Rattle.keys.specs.declared.command.Command.{Command}
use Rattle.keys.specs.declared.command.Command.TheVariants.{Get, Put, Add, Del, Scan, Wipe}
use Rattle.index_page.specs.Children.{Place}
use Rattle.index_page.specs.Page.{bare}
use Rattle.mapping.specs.Levels.{Placed}
use Rattle.routing.specs.Idle.{is_idle}
use Rattle.routing.specs.Routes.{Route, routes}
use Rattle.routing.specs.Runs.{IsRunOf}

abbrev Commands : Type 0
Commands = List (Command Global)

abbrev leaf : ℕ → List ℕ → Placed (List ℕ)
leaf pid low = record { pid = pid; page = bare low [] }

abbrev to : ℕ → List ℕ → Route
to pid places = record { pid = pid; places = places }

-- three leaves, whose low keys begin alike; their pids are in no order
abbrev three : List (Placed (List ℕ))
three = leaf 7 [] ∷ leaf 2 (97 ∷ []) ∷ leaf 5 (97 ∷ 97 ∷ []) ∷ []

-- no commands
no_routes : routes {A = Global} three [] ≡ []
no_routes = refl

-- a command at a leaf's low key goes to that leaf, the empty key to the first leaf, and a key between two low keys with a common prefix to the leaf
-- on the left; a leaf's commands are in batch order
abbrev batch : Commands
batch = Put (97 ∷ 98 ∷ []) (49 ∷ []) ∷ Get (97 ∷ []) ∷ Del [] ∷ Add (97 ∷ 97 ∷ []) (50 ∷ []) ∷ Get (97 ∷ 0 ∷ []) ∷ Del (96 ∷ 255 ∷ []) ∷ Get (97 ∷ []) ∷ []

all_leaves : routes three batch ≡ to 7 (2 ∷ 5 ∷ []) ∷ to 2 (1 ∷ 4 ∷ 6 ∷ []) ∷ to 5 (0 ∷ 3 ∷ []) ∷ []
all_leaves = refl

-- all commands in the last leaf
last_leaf : routes {A = Global} three (Get (98 ∷ []) ∷ Del (97 ∷ 97 ∷ []) ∷ Get (255 ∷ []) ∷ []) ≡ to 5 (0 ∷ 1 ∷ 2 ∷ []) ∷ []
last_leaf = refl

-- none in the leaf between the others
outer_leaves : routes {A = Global} three (Get (97 ∷ 97 ∷ 0 ∷ []) ∷ Get [] ∷ []) ≡ to 7 (1 ∷ []) ∷ to 5 (0 ∷ []) ∷ []
outer_leaves = refl

-- one leaf has them all
one_leaf : routes (leaf 0 [] ∷ []) batch ≡ to 0 (0 ∷ 1 ∷ 2 ∷ 3 ∷ 4 ∷ 5 ∷ 6 ∷ []) ∷ []
one_leaf = refl

-- scans over four leaves, which begin at the empty key, at c, at f and at j
abbrev c : List ℕ
c = 99 ∷ []

abbrev d : List ℕ
d = 100 ∷ []

abbrev f : List ℕ
f = 102 ∷ []

abbrev j : List ℕ
j = 106 ∷ []

abbrev four : List (Placed (List ℕ))
four = leaf 7 [] ∷ leaf 2 c ∷ leaf 5 f ∷ leaf 9 j ∷ []

-- a scan goes to the leaf of its lower bound, and to each whose low key lies after that and below the upper bound: d to f ends where a leaf
-- begins, and doesn't reach it; where the upper bound is no greater than the lower one, it goes to one leaf, and once
abbrev scans : Commands
scans = Scan (97 ∷ []) None 10 ∷ Scan d (Some f) 10 ∷ Scan d (Some (103 ∷ [])) 10 ∷ Scan d (Some (98 ∷ [])) 10 ∷ Scan f (Some f) 10 ∷ Scan [] (Some j) 10 ∷ Scan (107 ∷ []) None 0 ∷ Put c (49 ∷ []) ∷ Scan c (Some (106 ∷ 0 ∷ [])) 1 ∷ []

scans_go : routes four scans ≡ to 7 (0 ∷ 5 ∷ []) ∷ to 2 (0 ∷ 1 ∷ 2 ∷ 3 ∷ 5 ∷ 7 ∷ 8 ∷ []) ∷ to 5 (0 ∷ 2 ∷ 4 ∷ 5 ∷ 8 ∷ []) ∷ to 9 (0 ∷ 6 ∷ 8 ∷ []) ∷ []
scans_go = refl

-- a leaf may be reached by a scan alone
one_scan : routes {A = Global} four (Scan [] None 1 ∷ []) ≡ to 7 (0 ∷ []) ∷ to 2 (0 ∷ []) ∷ to 5 (0 ∷ []) ∷ to 9 (0 ∷ []) ∷ []
one_scan = refl

-- row 16.1: a wipe of b to d goes to both leaves, as a scan of all does, and other commands to their own
abbrev row_16_1 : Commands
row_16_1 = Put (99 ∷ 97 ∷ []) (57 ∷ []) ∷ Wipe (98 ∷ []) (Some d) ∷ Get (99 ∷ 97 ∷ []) ∷ Put c (55 ∷ []) ∷ Scan [] None 10 ∷ []

row_16_1_goes : routes (leaf 0 [] ∷ leaf 1 c ∷ []) row_16_1 ≡ to 0 (1 ∷ 4 ∷ []) ∷ to 1 (0 ∷ 1 ∷ 2 ∷ 3 ∷ 4 ∷ []) ∷ []
row_16_1_goes = refl

-- ---- what is left out of a page's run

-- a wipe of all, a scan of all, a put of d, and again a wipe of all
abbrev wiped : Commands
wiped = Wipe [] None ∷ Scan [] None 10 ∷ Put d (49 ∷ []) ∷ Wipe [] None ∷ []

-- in the leaf from f to j nothing is put: the first wipe stays, and what comes after it is idle
first_stays : is_idle wiped f (Some j) 0 ≡ false
first_stays = refl

scan_idle : is_idle wiped f (Some j) 1 ≡ true
scan_idle = refl

second_idle : is_idle wiped j None 3 ≡ true
second_idle = refl

-- in the leaf from c to f something is put, and in the first leaf all of it begins: there nothing is idle
put_there : is_idle wiped c (Some f) 3 ≡ false
put_there = refl

begun_there : is_idle wiped [] (Some c) 3 ≡ false
begun_there = refl

-- a wipe up to j takes all of the leaf from f to j, one that ends sooner doesn't, nor does it take all of a leaf without an end
up_to_the_end : is_idle {A = Global} (Wipe d (Some j) ∷ Scan [] None 10 ∷ []) f (Some j) 1 ≡ true
up_to_the_end = refl

ends_sooner : is_idle {A = Global} (Wipe d (Some (105 ∷ [])) ∷ Scan [] None 10 ∷ []) f (Some j) 1 ≡ false
ends_sooner = refl

no_end : is_idle {A = Global} (Wipe d (Some (122 ∷ [])) ∷ Scan [] None 10 ∷ []) j None 1 ≡ false
no_end = refl

-- a scan deletes nothing, and a command before the wipe finds the old pairs
before_the_wipe : is_idle {A = Global} (Scan [] None 10 ∷ Scan [] None 1 ∷ Wipe [] None ∷ []) f (Some j) 1 ≡ false
before_the_wipe = refl

out_only : (b : Bool) → not b ≡ false → b ≡ true
out_only true h = refl
out_only false h = absurd (cc)

-- so the run of the leaf from f to j has the first wipe alone
abbrev leaf_f : Place
leaf_f = record { pid = 5; low = f; end = Some j }

run_of_f : IsRunOf wiped leaf_f (to 5 (0 ∷ []))
run_of_f = record { pid = refl; some = refl; keeps = λ p. not (is_idle wiped f (Some j) p); places = refl; idle = λ p h. out_only (is_idle wiped f (Some j) p) h }
