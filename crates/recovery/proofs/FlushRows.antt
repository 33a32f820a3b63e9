-- The effects of flushes and an upgrade on a disk: rows 1, 3, 4, 10 and 15.1, byte for byte; and when they fail.
use Rattle.std.specs.Prelude.{◌≡◌, ℕ, ◌^◌, ◌-◌, List, [], ◌∷◌, Ok, Err}
use Rattle.std.proofs.Common.{refl}
use Rattle.keys.specs.declared.fault.Fault.TheVariants.{Spent, Full, AlreadyUpgraded}
use Rattle.keys.proofs.Literals.{S}
use Rattle.keys.specs.declared.version.Version.{Version}
use Rattle.keys.specs.declared.version.Version.TheVariants.{One, Two}
use Rattle.index_page.specs.Page.{PageOfKind}
use Rattle.mapping.specs.Tree.{Logged, Store, first_tree}
use Rattle.mapping.specs.Tree.Logged.{Old, Upto}
use Rattle.flush_log.specs.AfterFlush.{after_flush, after_upgrade}
use Rattle.flush_log.proofs.Literals.{leaf, gone, tree, pages_of_row_4}
use Rattle.recovery.proofs.DiskForms.{disk_of_row_1, disk_of_row_2, disk_of_row_4, disk_of_row_9, disk_of_row_10, disk_of_row_15}

-- a store whose log begins at segment 0, and is of this version
abbrev store_of : Version → List (ℕ × PageOfKind) → ℕ → ℕ → List (ℕ × Logged) → ℕ → ℕ → Store
store_of version pages root height logged tail sequence = record { tree = tree pages root height logged; head = 0; tail = tail; sequence = sequence; version = version }

abbrev store : List (ℕ × PageOfKind) → ℕ → ℕ → List (ℕ × Logged) → ℕ → ℕ → Store
store pages root height logged tail sequence = store_of One pages root height logged tail sequence

-- nothing is written where nothing is lacking
row_1 : after_flush S (store first_tree.pages 0 1 first_tree.logged 33 1) disk_of_row_1 ≡ Ok (store first_tree.pages 0 1 first_tree.logged 33 1, disk_of_row_1)
row_1 = refl

row_2 : after_flush S (store (leaf 0 "" ((gone "a" ∷ []) ∷ []) [] ∷ []) 0 1 ((0, Upto 0) ∷ []) 33 1) disk_of_row_1
    ≡ Ok (store (leaf 0 "" ((gone "a" ∷ []) ∷ []) [] ∷ []) 0 1 ((0, Upto 1) ∷ []) 52 2, disk_of_row_2)
row_2 = refl

abbrev all_written : List (ℕ × Logged)
all_written = (0, Upto 0) ∷ (1, Upto 0) ∷ (2, Upto 0) ∷ []

row_4 : after_flush S (store pages_of_row_4 2 2 ((0, Old) ∷ []) 33 1) disk_of_row_1 ≡ Ok (store pages_of_row_4 2 2 all_written 136 2, disk_of_row_4)
row_4 = refl

row_9 : after_flush S (store (leaf 0 "" [] [] ∷ []) 0 1 ((0, Old) ∷ (1, Old) ∷ (2, Old) ∷ []) 136 2) disk_of_row_4
    ≡ Ok (store (leaf 0 "" [] [] ∷ []) 0 1 ((0, Upto 0) ∷ []) 179 3, disk_of_row_9)
row_9 = refl

-- into the next segment
row_10 : after_flush S (store pages_of_row_4 2 2 ((0, Old) ∷ []) 179 3) disk_of_row_9 ≡ Ok (store pages_of_row_4 2 2 all_written 310 4, disk_of_row_10)
row_10 = refl

-- row 10's flush would need segment 3, which must stay free; with a number above the greatest it fails for that, full or not
full : after_flush S (store pages_of_row_4 2 2 ((0, Old) ∷ []) 691 3) disk_of_row_9 ≡ Err Full
full = refl

spent : after_flush S (store pages_of_row_4 2 2 ((0, Old) ∷ []) 691 (2 ^ 62)) disk_of_row_9 ≡ Err Spent
spent = refl

last_number : after_flush S (store pages_of_row_4 2 2 ((0, Old) ∷ []) 691 (2 ^ 62 - 1)) disk_of_row_9 ≡ Err Full
last_number = refl

-- each page again; and a second upgrade fails
row_15_1 : after_upgrade S (store pages_of_row_4 2 2 all_written 136 2) disk_of_row_4 ≡ Ok (store_of Two pages_of_row_4 2 2 all_written 238 3, disk_of_row_15)
row_15_1 = refl

upgraded_already : after_upgrade S (store_of Two pages_of_row_4 2 2 all_written 238 3) disk_of_row_15 ≡ Err AlreadyUpgraded
upgraded_already = refl
