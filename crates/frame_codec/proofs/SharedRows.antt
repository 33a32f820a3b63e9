-- Row 15.1: two leaves and the index page above them, with prefix-compressed keys; and bytes that begin with no such frame.
use Rattle.std.specs.Prelude.{[], ◌∷◌, codes}
use Rattle.std.proofs.Common.{refl}
use Rattle.frame_codec.specs.declared.format.KeyEncoding.TheVariants.{PrefixCompressed}
use Rattle.frame_codec.specs.Frame.Content.{FullLeaf, FullIndex}
use Rattle.frame_codec.proofs.RowForms.{IsShared, IsRefused}

leaf_0 : IsShared (record { pid = 0; content = FullLeaf PrefixCompressed [] ((codes "a", codes "1") ∷ (codes "b", codes "2") ∷ []) })
    "06 00000018 0000000000000000 0000 0002 00 01 61 0001 31 00 01 62 0001 32"
leaf_0 = (refl, refl, refl)

leaf_1 : IsShared
    (record { pid = 1; content = FullLeaf PrefixCompressed (codes "c") ((codes "c", codes "3") ∷ (codes "d", codes "4") ∷ (codes "e", codes "5") ∷ []) })
    "06 0000001e 0000000000000001 0001 63 0003 01 00 0001 33 00 01 64 0001 34 00 01 65 0001 35"
leaf_1 = (refl, refl, refl)

root : IsShared (record { pid = 2; content = FullIndex PrefixCompressed [] (([], 0) ∷ (codes "c", 1) ∷ []) })
    "07 00000021 0000000000000002 0000 0002 00 00 0000000000000000 00 01 63 0000000000000001"
root = (refl, refl, refl)

-- keys that each continue where the one before ends, or part from it before it ends
nested : IsShared (record { pid = 0; content = FullLeaf PrefixCompressed (codes "ab") ((codes "abc", []) ∷ (codes "abcd", []) ∷ (codes "abd", []) ∷ []) })
    "06 0000001d 0000000000000000 0002 6162 0003 02 01 63 0000 03 01 64 0000 02 01 64 0000"
nested = (refl, refl, refl)

-- a first key may be below the low key: whether it lies in its page is not asked of a frame
below_low : IsShared (record { pid = 0; content = FullLeaf PrefixCompressed (codes "ab") ((codes "a", []) ∷ []) })
    "06 00000012 0000000000000000 0002 6162 0001 01 00 0000"
below_low = (refl, refl, refl)

-- row 15.2: the rest of d is a c, so that the key shares one byte more than its frame says
shares_more : IsRefused "06 0000001e 0000000000000001 0001 63 0003 01 00 0001 33 00 01 63 0001 34 00 01 65 0001 35"
shares_more = (refl, refl)

first_shares_more_than_the_low_key : IsRefused "06 00000012 0000000000000000 0000 0001 01 01 61 0001 31"
first_shares_more_than_the_low_key = (refl, refl)

shares_more_than_the_key_before : IsRefused "06 00000018 0000000000000000 0000 0002 00 01 61 0001 31 02 01 62 0001 32"
shares_more_than_the_key_before = (refl, refl)

keys_fall : IsRefused "06 00000018 0000000000000000 0000 0002 00 01 62 0001 31 00 01 61 0001 32"
keys_fall = (refl, refl)

key_twice : IsRefused "06 00000017 0000000000000000 0000 0002 00 01 61 0001 31 01 00 0001 32"
key_twice = (refl, refl)

second_is_a_beginning_of_the_first : IsRefused "06 00000018 0000000000000000 0000 0002 00 02 6161 0001 31 01 00 0001 32"
second_is_a_beginning_of_the_first = (refl, refl)

key_of_17 : IsRefused "06 00000022 0000000000000000 0010 61616161616161616161616161616161 0001 10 01 62 0001 31"
key_of_17 = (refl, refl)

five_entries : IsRefused "07 00000043 0000000000000000 0000 0005 00 01 61 0000000000000001 00 01 62 0000000000000002 00 01 63 0000000000000003 00 01 64 0000000000000004 00 01 65 0000000000000005"
five_entries = (refl, refl)

length_one_more : IsRefused "06 0000000d 0000000000000000 0000 0000"
length_one_more = (refl, refl)

cut_off : IsRefused "06 00000012 0000000000000000 0000 0001 00 01 61 0001"
cut_off = (refl, refl)
