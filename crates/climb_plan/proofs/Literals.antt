-- Notation for the worked rows, in addition to the settings and keys of `keys` and the pages and trees of `mapping`: values, commands, pairs, and
-- trees after batches. docs/EXAMPLES.md numbers the rows.
use Rattle.std.specs.Prelude.{ℕ, ◌+◌, List, [], ◌∷◌, map, Option, Some}
use Rattle.keys.specs.declared.command.Command.{Command}
use Rattle.keys.specs.declared.command.Command.TheVariants.{Put, Del}
use Rattle.keys.specs.declared.settings.Settings.{Settings}
use Rattle.keys.proofs.Literals.{a, b, c, d, e, f, g, h, i, j, k, l, m, n, o, p, q}
use Rattle.mapping.specs.Tree.{Logged, Tree, first_tree}
use Rattle.mapping.specs.Tree.Logged.{Upto}
use Rattle.mapping.proofs.Literals.{leaf, index, tree}
use Rattle.climb_plan.specs.Plan.{planned_tree}

abbrev pub Bytes : Type 0
Bytes = List ℕ

abbrev pub Batch : Type 0
Batch = List (Command ℕ)

-- ---- values and commands: a digit is the value of that one byte

abbrev pub digit : ℕ → Bytes
digit x = (48 + x) ∷ []

abbrev pub put : Bytes → ℕ → Command ℕ
put key x = Put key (digit x)

abbrev pub del : Bytes → Command ℕ
del key = Del key

-- each key put with the value 1, and each deleted
abbrev pub put_ones : List Bytes → Batch
put_ones keys = map (λ key. put key 1) keys

abbrev pub del_all : List Bytes → Batch
del_all keys = map del keys

-- ---- pages

-- the pair of a key and a digit, and each key's pair with the value 1
abbrev pub pair : Bytes → ℕ → Bytes × Bytes
pair key x = (key, digit x)

abbrev pub ones : List Bytes → List (Bytes × Bytes)
ones keys = map (λ key. pair key 1) keys

-- changes in runs
abbrev pub set : Bytes → ℕ → Bytes × Option Bytes
set key x = (key, Some (digit x))

-- ---- trees

-- the tree with these log states
abbrev pub with_log : List (ℕ × Logged) → Tree → Tree
with_log logged t = record t { logged = logged }

-- the log has the base of each of these pages, and no runs
abbrev pub bases_of : List ℕ → List (ℕ × Logged)
bases_of pids = map (λ pid. (pid, Upto 0)) pids

-- the tree of a new store, with nothing in the log: most rows are not about the log
abbrev pub fresh : Tree
fresh = with_log [] first_tree

-- the tree after batches
abbrev pub after : Settings → Tree → List Batch → Tree
after s t [] = t
after s t (batch ∷ batches) = after s (planned_tree s t batch) batches

-- ---- where many rows begin

-- row 4: five puts in one batch, and the tree after them
abbrev pub five_puts : Batch
five_puts = put a 1 ∷ put b 2 ∷ put c 3 ∷ put d 4 ∷ put e 5 ∷ []

abbrev pub tree_of_five : Tree
tree_of_five = tree (
    leaf 0 [] (pair a 1 ∷ pair b 2 ∷ []) ∷
    leaf 1 c (pair c 3 ∷ pair d 4 ∷ pair e 5 ∷ []) ∷
    index 2 [] (([], 0) ∷ (c, 1) ∷ []) ∷ []) 2 2

-- row 5: seventeen puts in one batch
abbrev pub seventeen_puts : Batch
seventeen_puts = put_ones (a ∷ b ∷ c ∷ d ∷ e ∷ f ∷ g ∷ h ∷ i ∷ j ∷ k ∷ l ∷ m ∷ n ∷ o ∷ p ∷ q ∷ [])
