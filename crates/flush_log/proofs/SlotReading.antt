-- The contents of a slot's 64 bytes, as a reading finds them step by step.
use Rattle.std.proofs.Common.{◌≡◌, ◌≢◌, ℕ, ◌+◌, ◌*◌, ◌%◌, ◌^◌, ◌<◌, Bool, true, false, ◌&&◌, ◌==◌, nat_lt, nat_le, lt-ltb, refl, if◌then◌else◌, get_or, take, drop, None, Ok, Err, bytes_eq, sym, ap, ap₂, ◌∙◌}
use Rattle.std.proofs.lemmas.Bool.{eq-eqb, ne_eqb}
use Rattle.keys.specs.Bytes.{Bytes}
use Rattle.keys.specs.Limits.{is_in_limits}
use Rattle.keys.specs.Sizes.{segment_header_size}
use Rattle.keys.specs.declared.settings.Settings.{Settings}
use Rattle.keys.specs.declared.fault.Fault.TheVariants.{NoSlot}
use Rattle.frame_codec.specs.Frame.{is_pid}
use Rattle.mapping.specs.Tree.{most_levels}
use Rattle.flush_log.specs.Segments.{last_segment}
use Rattle.flush_log.specs.Slot.{Slot, greatest, is_tail, slot_place, slot_bytes, slot_in, is_slot, is_open, read_slot}
use Rattle.flush_log.proofs.SlotLemmas.{Said, said, gate_is_first, opened, closed}

-- ---- tests

regrouped : (a b c d e f p h : Bool) → a && b ≡ true → c && d && e && f ≡ true → p ≡ true → h ≡ a && b && c && d && e && f && p && h
regrouped true true true true true true true h numbers log pid = refl
regrouped true false c d e f p h numbers log pid = absurd (cc)
regrouped false b c d e f p h numbers log pid = absurd (cc)
regrouped true true false d e f p h numbers log pid = absurd (cc)
regrouped true true true false e f p h numbers log pid = absurd (cc)
regrouped true true true true false f p h numbers log pid = absurd (cc)
regrouped true true true true true false p h numbers log pid = absurd (cc)
regrouped true true true true true true false h numbers log pid = absurd (cc)

-- if the other tests hold, and the root is a machine number, the height decides
pub height_decides : (s : Settings) (n : ℕ) (t : Slot) → is_in_limits 1 greatest t.sequence && t.sequence % 2 == n % 2 ≡ true
    → nat_lt (t.head * s.seg_size + segment_header_size) t.tail && nat_le t.tail greatest && is_tail s t.tail && nat_lt (last_segment s t.tail) (t.head + s.segments) ≡ true
    → t.root < 2 ^ 64 → is_in_limits 1 most_levels t.height ≡ is_slot s n t
height_decides s n t numbers log small =
    regrouped (is_in_limits 1 greatest t.sequence) (t.sequence % 2 == n % 2)
    (nat_lt (t.head * s.seg_size + segment_header_size) t.tail) (nat_le t.tail greatest) (is_tail s t.tail) (nat_lt (last_segment s t.tail) (t.head + s.segments))
    (is_pid t.root) (is_in_limits 1 most_levels t.height) numbers log (lt-ltb t.root (2 ^ 64) small)

-- ---- bytes

abbrev pub IsOfSlot : ℕ → Bytes → Bytes → Type 0
IsOfSlot n disk bytes = take 64 (drop (slot_place n) disk) ≡ bytes

gate_read : (n : ℕ) (disk bytes : Bytes) → IsOfSlot n disk bytes → is_open n disk ≡ (get_or bytes 0 0 == 1)
gate_read n disk bytes h = ap (λ (b : ℕ). b == 1) (sym (gate_is_first (slot_place n) disk) ∙ ap (λ (bs : Bytes). get_or bs 0 0) h)

-- its gate is closed
pub reads_none : (s : Settings) (n : ℕ) (disk bytes : Bytes) → IsOfSlot n disk bytes → get_or bytes 0 0 ≢ 1 → (let none : Said = Ok None in none ≡ read_slot s n disk)
reads_none s n disk bytes h shut = sym (closed s n disk (gate_read n disk bytes h ∙ ne_eqb (get_or bytes 0 0) 1 shut))

-- it is open, and encodes this slot or does not
pub reads_open : (s : Settings) (n : ℕ) (disk bytes : Bytes) (t : Slot) (same good : Bool) → IsOfSlot n disk bytes → get_or bytes 0 0 ≡ 1 → t ≡ slot_in bytes
    → same ≡ bytes_eq (slot_bytes t) bytes → good ≡ is_slot s n t → (let no : Said = Err NoSlot in (if same && good then said t else no) ≡ read_slot s n disk)
reads_open s n disk bytes t same good h gate is e g =
    let no : Said = Err NoSlot in
    let reported : Slot → Bool → Said = λ u b. if b then said u else no in
    let tested : Slot → Bytes → Said = λ u bs. reported u (bytes_eq (slot_bytes u) bs && is_slot s n u) in
    let tests : same && good ≡ bytes_eq (slot_bytes t) bytes && is_slot s n t = ap₂ (λ (a b : Bool). a && b) e g in
    ap (reported t) tests
    ∙ ap (λ (u : Slot). tested u bytes) is
    ∙ ap (λ (bs : Bytes). tested (slot_in bs) bs) (sym h)
    ∙ sym (opened s n disk (gate_read n disk bytes h ∙ eq-eqb (get_or bytes 0 0) 1 gate))
