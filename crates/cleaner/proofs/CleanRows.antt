-- The cleans of rows 15 and 16, and the store that is read after the second clean.
use Rattle.std.specs.Prelude.{◌≡◌, ℕ, List, [], ◌∷◌, ◌++◌, drop, Ok, Err}
use Prim.Native.String.{String}
use Rattle.std.proofs.Common.{refl}
use Rattle.keys.specs.declared.fault.Fault.TheVariants.{NothingToClean}
use Rattle.keys.specs.declared.version.Version.{Version}
use Rattle.keys.specs.declared.version.Version.TheVariants.{One, Two}
use Rattle.keys.proofs.Literals.{S}
use Rattle.mapping.specs.Tree.{Store}
use Rattle.mapping.specs.Tree.Logged.{Upto}
use Rattle.frame_codec.specs.Frame.{Frame}
use Rattle.frame_codec.specs.Frame.Content.{FullLeaf}
use Rattle.frame_codec.specs.declared.format.KeyEncoding.TheVariants.{Whole}
use Rattle.flush_log.specs.Layout.{tail_after, found_in_text}
use Rattle.flush_log.specs.Reading.{Found}
use Rattle.flush_log.proofs.Literals.{pair, set, leaf, tree, frame, base_1, pages_of_row_4, sixteen, run, three}
use Rattle.recovery.specs.StoreOfDisk.{store_of_disk}
use Rattle.recovery.proofs.DiskForms.{disk}
use Rattle.cleaner.specs.AfterClean.{after_clean}
use Rattle.cleaner.specs.CleanText.{clean_frames}

-- ---- row 15: every third flush writes a base, so no frame of the head segment is live

-- the frames found after commits that were written one after the other
abbrev found_in_all : ℕ → List (List Frame) → List Found
found_in_all tail [] = []
found_in_all tail (text ∷ texts) = found_in_text S tail text ++ found_in_all (tail_after S tail text) texts

row_15 : clean_frames 0 (found_in_all 16 ((frame 0 (FullLeaf Whole [] []) ∷ []) ∷ (three ++ (three ++ (three ++ (three ++ (three ++ (run ∷ run ∷ [])))))))) ≡ []
row_15 = refl

-- ---- row 16: live bases are in the head segment, and a put is not flushed

abbrev two_slots : String → String → String → List ℕ
two_slots slot_0 slot_1 following = disk slot_0 slot_1
    "4257534700000000 0000000000000000  01 0000000c 0000000000000000 0000 0000  01 00000018 0000000000000000 0000 0002 0001 61 0001 31 0001 62 0001 32  01 0000001f 0000000000000001 0001 63 0003 0001 63 0001 33 0001 64 0001 34 0001 65 0001 35  03 00000021 0000000000000002 0000 0002 0000 0000000000000000 0001 63 0000000000000001  02 00000020 0000000000000000 0001 0001 61 01 0010 30313233343536373839616263646566  02 00000020 0000000000000000 0001 0001 61 01 0010 30313233343536373839616263646566  01 00000027 0000000000000000 0000 0002 0001 61 0010 30313233343536373839616263646566 0001 62 0001 32"
    following

-- the slot before the clean, and the one after it, of either version
abbrev sixth_slot : Version → String
sixth_slot One = "0100000000000000 0000000000000006 0000000000000000 0000000000000135 0000000000000002 00000002"
sixth_slot Two = "0100000000000000 0000000000000006 0000000000000000 0000000000000135 0000000000000002 00000002 00000002"

abbrev seventh_slot : Version → String
seventh_slot One = "0100000000000000 0000000000000007 0000000000000001 00000000000001d0 0000000000000002 00000002"
seventh_slot Two = "0100000000000000 0000000000000007 0000000000000001 00000000000001d0 0000000000000002 00000002 00000002"

abbrev disk_before : Version → List ℕ
disk_before version = two_slots (sixth_slot version)
    "0100000000000000 0000000000000005 0000000000000000 00000000000000fe 0000000000000002 00000002"
    "4257534700000000 0000000000000001  02 00000020 0000000000000000 0001 0001 61 01 0010 30313233343536373839616263646566"

abbrev disk_after : Version → List ℕ
disk_after version = two_slots (sixth_slot version) (seventh_slot version)
    "4257534700000000 0000000000000001  02 00000020 0000000000000000 0001 0001 61 01 0010 30313233343536373839616263646566  01 00000027 0000000000000000 0000 0002 0001 61 0010 30313233343536373839616263646566 0001 62 0001 32  02 00000020 0000000000000000 0001 0001 61 01 0010 30313233343536373839616263646566  01 0000001f 0000000000000001 0001 63 0003 0001 63 0001 33 0001 64 0001 34 0001 65 0001 35  03 00000021 0000000000000002 0000 0002 0000 0000000000000000 0001 63 0000000000000001"

-- the store in memory, and the one on the disk, which lacks z
abbrev in_memory : Version → ℕ → ℕ → ℕ → Store
in_memory version head tail sequence = record {
  tree = tree (leaf 0 "" ((set "a" sixteen ∷ []) ∷ []) (pair "a" sixteen ∷ pair "b" "2" ∷ []) ∷ leaf 1 "c" ((set "z" "9" ∷ []) ∷ []) base_1 ∷ drop 2 pages_of_row_4) 2 2
      ((0, Upto 1) ∷ (1, Upto 0) ∷ (2, Upto 0) ∷ []);
  head = head;
  tail = tail;
  sequence = sequence;
  version = version;
}

abbrev on_disk : Version → ℕ → ℕ → ℕ → Store
on_disk version head tail sequence = record {
  tree = tree (leaf 0 "" ((set "a" sixteen ∷ []) ∷ []) (pair "a" sixteen ∷ pair "b" "2" ∷ []) ∷ drop 1 pages_of_row_4) 2 2 ((0, Upto 1) ∷ (1, Upto 0) ∷ (2, Upto 0) ∷ []);
  head = head;
  tail = tail;
  sequence = sequence;
  version = version;
}

row_16 : after_clean S (in_memory One 0 309 6) (disk_before One) ≡ Ok (in_memory One 1 464 7, disk_after One)
row_16 = refl

row_16_read : store_of_disk (disk_after One) ≡ Ok (S, on_disk One 1 464 7)
row_16_read = refl

row_16_again : after_clean S (in_memory One 1 464 7) (disk_after One) ≡ Err NothingToClean
row_16_again = refl

-- the same in a log of version 2: the frames from before its upgrade are copied unchanged, and the version stays
of_version_two : after_clean S (in_memory Two 0 309 6) (disk_before Two) ≡ Ok (in_memory Two 1 464 7, disk_after Two)
of_version_two = refl

of_version_two_read : store_of_disk (disk_after Two) ≡ Ok (S, on_disk Two 1 464 7)
of_version_two_read = refl
