-- Bytes that begin with no frame: each row is an encoded frame with one error.
use Rattle.std.proofs.Common.{refl}
use Rattle.frame_codec.proofs.RowForms.{IsRefused}

nothing : IsRefused ""
nothing = (refl, refl)

kind_0 : IsRefused "00 00000008 0000000000000001"
kind_0 = (refl, refl)

-- row 20: the kind of a new store's frame is 9
kind_9 : IsRefused "09 0000000c 0000000000000000 0000 0000"
kind_9 = (refl, refl)

-- row 13.9: the length is one more
length_one_more : IsRefused "02 0000000f 0000000000000000 0001 0001 61 00"
length_one_more = (refl, refl)

byte_after_within_length : IsRefused "01 0000000d 0000000000000000 0000 0000 00"
byte_after_within_length = (refl, refl)

length_one_less : IsRefused "01 0000000b 0000000000000000 0000 0000"
length_one_less = (refl, refl)

cut_off : IsRefused "01 0000000c 0000000000000000 0000 00"
cut_off = (refl, refl)

-- row 21: the flag is 2
flag_2 : IsRefused "02 0000000e 0000000000000000 0001 0001 61 02"
flag_2 = (refl, refl)

empty_run : IsRefused "02 0000000a 0000000000000000 0000"
empty_run = (refl, refl)

keys_fall : IsRefused "01 00000018 0000000000000000 0000 0002 0001 62 0001 31 0001 61 0001 32"
keys_fall = (refl, refl)

key_twice : IsRefused "03 00000022 0000000000000002 0000 0002 0001 63 0000000000000000 0001 63 0000000000000001"
key_twice = (refl, refl)

five_changes : IsRefused "02 00000028 0000000000000000 0005 0001 61 00 0001 62 00 0001 63 00 0001 64 00 0001 65 00"
five_changes = (refl, refl)

value_of_17 : IsRefused "02 00000021 0000000000000000 0001 0001 61 01 0011 3131313131313131313131313131313131"
value_of_17 = (refl, refl)

low_key_of_17 : IsRefused "01 0000001d 0000000000000000 0011 6161616161616161616161616161616161 0000"
low_key_of_17 = (refl, refl)
