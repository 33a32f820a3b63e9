-- The stores that the disks of rows 2, 4, 10 and 15.1 encode.
use Rattle.std.specs.Prelude.{◌≡◌, ℕ, [], ◌∷◌, Ok}
use Rattle.std.proofs.Common.{refl}
use Rattle.keys.proofs.Literals.{S}
use Rattle.keys.specs.declared.version.Version.{Version}
use Rattle.keys.specs.declared.version.Version.TheVariants.{One, Two}
use Rattle.mapping.specs.Tree.{Store}
use Rattle.mapping.specs.Tree.Logged.{Upto}
use Rattle.flush_log.proofs.Literals.{leaf, gone, tree, pages_of_row_4}
use Rattle.flush_log.specs.Overlay.{overlay}
use Rattle.recovery.specs.StoreOfDisk.{store_of_disk}
use Rattle.recovery.proofs.DiskForms.{disk_of_row_2, disk_of_row_4, disk_of_row_10, disk_of_row_15}

row_2 : store_of_disk disk_of_row_2
    ≡ Ok (S, record { tree = tree (leaf 0 "" ((gone "a" ∷ []) ∷ []) [] ∷ []) 0 1 ((0, Upto 1) ∷ []); head = 0; tail = 52; sequence = 2; version = One })
row_2 = refl

-- the store of row 4, at this tail, with this number, and with a log of this version
abbrev of_row_4 : ℕ → ℕ → Version → Store
of_row_4 tail sequence version = record { tree = tree pages_of_row_4 2 2 ((0, Upto 0) ∷ (1, Upto 0) ∷ (2, Upto 0) ∷ []); head = 0; tail = tail; sequence = sequence; version = version }

row_4 : store_of_disk disk_of_row_4 ≡ Ok (S, of_row_4 136 2 One)
row_4 = refl

row_10 : store_of_disk disk_of_row_10 ≡ Ok (S, of_row_4 310 4 One)
row_10 = refl

-- upgraded, the same pages
row_15_1 : store_of_disk disk_of_row_15 ≡ Ok (S, of_row_4 238 3 Two)
row_15_1 = refl

-- as long as the slot of the upgrade is closed, the store from before it
row_15_2_gate : store_of_disk (overlay disk_of_row_15 192 (0 ∷ [])) ≡ Ok (S, of_row_4 136 2 One)
row_15_2_gate = refl
