-- The faults of damaged disks: rows 13.1 to 13.9, 15.2, 20 and 21.
use Rattle.std.specs.Prelude.{◌≡◌, ℕ, List, [], ◌∷◌, ◌++◌, take, drop, Ok, Err}
use Rattle.std.proofs.Common.{refl}
use Rattle.keys.specs.declared.fault.Fault.TheVariants.{NotAStore, NoSlot, BadSegment, BadFrame, BadStructure}
use Rattle.keys.proofs.Literals.{S}
use Rattle.keys.specs.declared.version.Version.TheVariants.{One}
use Rattle.mapping.specs.Tree.{first_tree}
use Rattle.flush_log.specs.Overlay.{overlay}
use Rattle.recovery.specs.StoreOfDisk.{store_of_disk}
use Rattle.recovery.proofs.DiskForms.{disk_of_row_2, disk_of_row_4, disk_of_row_10, disk_of_row_15}

-- the byte at a place is set to this
abbrev set : ℕ → ℕ → List ℕ → List ℕ
set place byte file = overlay file place (byte ∷ [])

-- the disk of these bytes has a tree with this finding
abbrev IsFound : List ℕ → ℕ → ℕ → Type 0
IsFound file rule pid = store_of_disk file ≡ Err (BadStructure (record { rule = rule; pid = pid }))

-- ---- the disk of row 4

-- the low key of page 1 is b
row_13_1 : IsFound (set 589 98 disk_of_row_4) 4 1
row_13_1 = refl

-- the root's second child is 0, 7, 2
row_13_2 : IsFound (set 647 0 disk_of_row_4) 4 0
row_13_2 = refl

row_13_3 : IsFound (set 647 7 disk_of_row_4) 2 7
row_13_3 = refl

row_13_4 : IsFound (set 647 2 disk_of_row_4) 3 2
row_13_4 = refl

-- the height is 1; and the root 0
row_13_5 : IsFound (set 171 1 disk_of_row_4) 3 2
row_13_5 = refl

row_13_6 : IsFound (set 167 0 (set 171 1 disk_of_row_4)) 10 1
row_13_6 = refl

-- the newer slot's gate is closed
row_13_7 : store_of_disk (set 128 0 disk_of_row_4) ≡ Ok (S, record { tree = first_tree; head = 0; tail = 33; sequence = 1; version = One })
row_13_7 = refl

-- ---- the disk of row 10

-- its segments 0 and 1 are exchanged
row_13_8 : store_of_disk (take 512 disk_of_row_10 ++ (take 256 (drop 768 disk_of_row_10) ++ (take 256 (drop 512 disk_of_row_10) ++ drop 1024 disk_of_row_10))) ≡ Err (BadSegment 0)
row_13_8 = refl

-- the number of segment 1 is 2; the kind of the first frame is 9 as well; the disk is one byte too short
row_20_segment : store_of_disk (set 783 2 disk_of_row_10) ≡ Err (BadSegment 1)
row_20_segment = refl

row_20_both : store_of_disk (set 528 9 (set 783 2 disk_of_row_10)) ≡ Err (BadFrame 0 16)
row_20_both = refl

row_20_short : store_of_disk (take 1535 disk_of_row_10) ≡ Err NotAStore
row_20_short = refl

-- ---- the disk of row 2

-- a length, and a flag
row_13_9 : store_of_disk (set 549 15 disk_of_row_2) ≡ Err (BadFrame 0 33)
row_13_9 = refl

row_21_flag : store_of_disk (set 563 2 disk_of_row_2) ≡ Err (BadFrame 0 33)
row_21_flag = refl

-- the tail is 51
row_21_tail : store_of_disk (set 159 51 disk_of_row_2) ≡ Err (BadFrame 0 33)
row_21_tail = refl

-- both gates are closed
row_21_gates : store_of_disk (set 128 0 (set 192 0 disk_of_row_2)) ≡ Err NoSlot
row_21_gates = refl

-- ---- the disk of row 15.1

-- the rest of the key d of page 1 is c, which shares more with the key before; the version is 3; or it is that of a log without such frames
row_15_2_rest : store_of_disk (set 702 99 disk_of_row_15) ≡ Err (BadFrame 0 165)
row_15_2_rest = refl

row_15_2_version : store_of_disk (set 239 3 disk_of_row_15) ≡ Err NoSlot
row_15_2_version = refl

row_15_2_older : store_of_disk (set 239 0 disk_of_row_15) ≡ Err (BadFrame 0 136)
row_15_2_older = refl
