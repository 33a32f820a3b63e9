-- The slots of byte rows 2, 7, 8 and 9, and of row 21; and malformed slots.
use Rattle.std.specs.Prelude.{◌≡◌, ℕ, Bool, true, false, List, ◌++◌, take, drop, replicate, Ok, Err}
use Rattle.std.proofs.Common.{refl}
use Rattle.keys.specs.declared.fault.Fault.TheVariants.{NoSlot}
use Rattle.keys.specs.declared.version.Version.TheVariants.{One, Two}
use Rattle.keys.proofs.Literals.{S}
use Rattle.frame_codec.proofs.RowForms.{hex}
use Rattle.flush_log.specs.Overlay.{overlay}
use Rattle.flush_log.specs.Slot.{Slot, slot_place, slot_bytes, is_slot, store_slot}
use Rattle.flush_log.specs.NewStore.{first_slot, new_bytes}

-- ---- bytes

row_2 : slot_bytes first_slot ≡ hex "0100000000000000 0000000000000001 0000000000000000 0000000000000021 0000000000000000 00000001" ++ replicate 20 0
row_2 = refl

slot_0_of_new : take 64 (drop 128 (new_bytes S)) ≡ replicate 64 0
slot_0_of_new = refl

abbrev slot_of_row_7 : Slot
slot_of_row_7 = record { sequence = 2; head = 0; tail = 136; root = 2; height = 2; version = One }

row_7 : slot_bytes slot_of_row_7 ≡ hex "0100000000000000 0000000000000002 0000000000000000 0000000000000088 0000000000000002 00000002" ++ replicate 20 0
row_7 = refl

abbrev slot_of_row_8 : Slot
slot_of_row_8 = record { sequence = 3; head = 0; tail = 179; root = 0; height = 1; version = One }

row_8 : slot_bytes slot_of_row_8 ≡ hex "0100000000000000 0000000000000003 0000000000000000 00000000000000B3 0000000000000000 00000001" ++ replicate 20 0
row_8 = refl

row_9 : slot_bytes (record { sequence = 4; head = 0; tail = 310; root = 2; height = 2; version = One })
    ≡ hex "0100000000000000 0000000000000004 0000000000000000 0000000000000136 0000000000000002 00000002" ++ replicate 20 0
row_9 = refl

-- an upgrade of the store of row 7
abbrev slot_of_upgrade : Slot
slot_of_upgrade = record { sequence = 3; head = 0; tail = 238; root = 2; height = 2; version = Two }

row_upgrade : slot_bytes slot_of_upgrade
    ≡ hex "0100000000000000 0000000000000003 0000000000000000 00000000000000EE 0000000000000002 00000002 00000002" ++ replicate 16 0
row_upgrade = refl

-- ---- the store's slot

-- the disk's first bytes with this slot written too
abbrev with_slot : Slot → List ℕ → List ℕ
with_slot t disk = overlay disk (slot_place t.sequence) (slot_bytes t)

of_new : store_slot S (new_bytes S) ≡ Ok first_slot
of_new = refl

of_row_7 : store_slot S (with_slot slot_of_row_7 (new_bytes S)) ≡ Ok slot_of_row_7
of_row_7 = refl

of_row_8 : store_slot S (with_slot slot_of_row_8 (with_slot slot_of_row_7 (new_bytes S))) ≡ Ok slot_of_row_8
of_row_8 = refl

-- the disk's first bytes after the upgrade; with another byte as the last one of the version, 3 or 0; and with the gate at 0
abbrev upgraded : List ℕ
upgraded = with_slot slot_of_upgrade (with_slot slot_of_row_7 (new_bytes S))

of_upgrade : store_slot S upgraded ≡ Ok slot_of_upgrade
of_upgrade = refl

version_of_3 : store_slot S (overlay upgraded 239 (hex "03")) ≡ Err NoSlot
version_of_3 = refl

version_of_1 : store_slot S (overlay upgraded 239 (hex "01")) ≡ Err NoSlot
version_of_1 = refl

version_of_0 : store_slot S (overlay upgraded 239 (hex "00")) ≡ Ok (record slot_of_upgrade { version = One })
version_of_0 = refl

first_byte_of_version : store_slot S (overlay upgraded 236 (hex "01")) ≡ Err NoSlot
first_byte_of_version = refl

not_upgraded : store_slot S (overlay upgraded 192 (hex "00")) ≡ Ok slot_of_row_7
not_upgraded = refl

-- row 21: the tail 51 is well formed; with both gates at 0 there is no slot
tail_of_51 : store_slot S (overlay (with_slot (record slot_of_row_7 { tail = 52; root = 0; height = 1 }) (new_bytes S)) 159 (hex "33"))
    ≡ Ok (record { sequence = 2; head = 0; tail = 51; root = 0; height = 1; version = One })
tail_of_51 = refl

both_closed : store_slot S (overlay (overlay (with_slot slot_of_row_7 (new_bytes S)) 128 (hex "00")) 192 (hex "00")) ≡ Err NoSlot
both_closed = refl

-- an open slot that is malformed is rejected beside one that is well formed; the bytes after a closed gate are not examined
byte_of_zeros : store_slot S (overlay (with_slot slot_of_row_7 (new_bytes S)) 135 (hex "01")) ≡ Err NoSlot
byte_of_zeros = refl

last_of_zeros : store_slot S (overlay (with_slot slot_of_row_7 (new_bytes S)) 191 (hex "01")) ≡ Err NoSlot
last_of_zeros = refl

closed : store_slot S (overlay (with_slot slot_of_row_7 (new_bytes S)) 128 (hex "02 01")) ≡ Ok first_slot
closed = refl

-- ---- which slots are well formed

-- slot 0 with this head and tail is well formed
abbrev may_end : ℕ → ℕ → Bool
may_end head tail = is_slot S 0 (record { sequence = 2; head = head; tail = tail; root = 0; height = 1; version = One })

at_header : may_end 0 16 ≡ false
at_header = refl

past_header : may_end 0 17 ≡ true
past_header = refl

at_end : may_end 0 256 ≡ true
at_end = refl

in_header : may_end 0 272 ≡ false
in_header = refl

last_segment : may_end 0 1024 ≡ true
last_segment = refl

too_many_segments : may_end 0 1041 ≡ false
too_many_segments = refl

head_moved : may_end 1 1041 ≡ true
head_moved = refl

head_after_tail : may_end 1 256 ≡ false
head_after_tail = refl

greatest_tail : may_end 18014398509481980 4611686018427387904 ≡ true
greatest_tail = refl

tail_too_great : may_end 18014398509481981 4611686018427387921 ≡ false
tail_too_great = refl

-- a head whose product with the segments' size has more than 64 bits
head_too_great : may_end 72057594037927936 33 ≡ false
head_too_great = refl

abbrev may_say : ℕ → ℕ → Bool
may_say sequence height = is_slot S 0 (record { sequence = sequence; head = 0; tail = 33; root = 0; height = height; version = One })

sequences : (may_say 0 1 ≡ false) × (may_say 1 1 ≡ false) × (may_say 4611686018427387904 1 ≡ true) × (may_say 4611686018427387906 1 ≡ false)
sequences = (refl, refl, refl, refl)

heights : (may_say 2 0 ≡ false) × (may_say 2 64 ≡ true) × (may_say 2 65 ≡ false)
heights = (refl, refl, refl)
