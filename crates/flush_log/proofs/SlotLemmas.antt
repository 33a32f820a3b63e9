-- A slot is decoded again, and a decoded slot is encoded in the bytes; the store's slot.
use Rattle.std.proofs.Common.{◌≡◌, ◌⊎◌, inl, inr, ⊎_elim, ℕ, suc, ◌+◌, ◌*◌, ◌%◌, ◌^◌, ◌<◌, ◌≤◌, Bool, true, false, ◌&&◌, ◌==◌, if◌then◌else◌, nat_le, nat_lt, List, ◌++◌, get_or, take, drop, replicate, Option, Some, None, Result, Ok, Err, refl, sym, ap, ◌∙◌, subst, arith, bytes_eq, le-leb, leb-true, ltb-true, ltb-false, lt-ltb, le-ltb, eqb-true, eq-eqb, ap₂, rules}
use Rattle.std.proofs.lemmas.Bool.{and_parts, and_from}
use Rattle.std.proofs.lemmas.Bool.{cases_eq}
use Rattle.std.proofs.lemmas.List.{places}
use Rattle.std.proofs.lemmas.Slice.Eq.{bytes_eq-Decides}
use Rattle.std.proofs.Math.Nat.{mul-le-mul_left}
use Rattle.keys.specs.Cells.{number}
use Rattle.keys.specs.Limits.{is_in_limits}
use Rattle.keys.specs.declared.settings.Settings.{Settings}
use Rattle.keys.specs.declared.fault.Fault.{Fault}
use Rattle.keys.specs.declared.fault.Fault.TheVariants.{NoSlot}
use Rattle.keys.specs.declared.version.Version.{Version}
use Rattle.keys.specs.declared.version.Version.TheVariants.{One, Two}
use Rattle.keys.proofs.CellLemmas.{number-back}
use Rattle.frame_codec.specs.Frame.{is_pid}
use Rattle.flush_log.specs.Segments.{last_segment}
use Rattle.flush_log.specs.SettingsBlock.{number_or_0}
use Rattle.flush_log.specs.Ends.{ends_in, AreEnds}
use Rattle.flush_log.specs.Slot.{Slot, greatest, slot_place, version_number, version_in, slot_bytes, slot_in, is_tail, is_slot, is_open, read_open, read_slot, newer, store_slot}
use Rattle.keys.proofs.LimitLemmas.{within}

-- ---- the requirements on a slot, as facts

pub record IsSlot (s : Settings) (n : ℕ) (t : Slot) : Type 0 where
  pub sequence : (1 ≤ t.sequence) × (t.sequence ≤ 2 ^ 62)
  pub own : t.sequence % 2 ≡ n % 2
  pub following : t.head * s.seg_size + 16 < t.tail
  pub tail : t.tail ≤ 2 ^ 62
  pub ends : is_tail s t.tail ≡ true
  pub last : last_segment s t.tail < t.head + s.segments
  pub root : t.root < 2 ^ 64
  pub height : (1 ≤ t.height) × (t.height ≤ 64)

pub slot-is : (s : Settings) (n : ℕ) (t : Slot) → is_slot s n t ≡ true → IsSlot s n t
slot-is s n t h =
    let (to_root, height) = and_parts _ (is_in_limits 1 64 t.height) h in
    let (to_last, root) = and_parts _ (is_pid t.root) to_root in
    let (to_end, last) = and_parts _ (nat_lt (last_segment s t.tail) (t.head + s.segments)) to_last in
    let (to_tail, ends) = and_parts _ (is_tail s t.tail) to_end in
    let (to_head, tail) = and_parts _ (nat_le t.tail greatest) to_tail in
    let (to_own, following) = and_parts _ (nat_lt (t.head * s.seg_size + 16) t.tail) to_head in
    let (sequence, own) = and_parts (is_in_limits 1 greatest t.sequence) (t.sequence % 2 == n % 2) to_own in
    record {
      sequence = within 1 greatest t.sequence sequence;
      own = eqb-true (t.sequence % 2) (n % 2) own;
      following = ltb-true _ _ following;
      tail = leb-true t.tail greatest tail;
      ends = ends;
      last = ltb-true _ _ last;
      root = ltb-true t.root (2 ^ 64) root;
      height = within 1 64 t.height height;
    }

in_limits : (least most n : ℕ) → least ≤ n → n ≤ most → is_in_limits least most n ≡ true
in_limits least most n low high = and_from _ _ (le-leb least n low) (le-leb n most high)

pub is-slot : (s : Settings) (n : ℕ) (t : Slot) → IsSlot s n t → is_slot s n t ≡ true
is-slot s n t f =
    and_from _ _ (and_from _ _ (and_from _ _ (and_from _ _ (and_from _ _ (and_from _ _ (and_from _ _
    (in_limits 1 greatest t.sequence f.sequence.0 f.sequence.1)
    (eq-eqb (t.sequence % 2) (n % 2) f.own))
    (lt-ltb _ _ f.following))
    (le-leb t.tail greatest f.tail))
    f.ends)
    (lt-ltb _ _ f.last))
    (lt-ltb t.root (2 ^ 64) f.root))
    (in_limits 1 64 t.height f.height.0 f.height.1)

-- the head is no greater than the tail
pub head_small : (s : Settings) (n : ℕ) (t : Slot) → 0 < s.seg_size → IsSlot s n t → t.head < t.tail
head_small s n t some f =
    let least : t.head * 1 ≤ t.head * s.seg_size = mul-le-mul_left t.head (omega arith) in
    let far = f.following in
    omega arith

-- ---- a slot is read back

same_slot : (t u : Slot) → t.sequence ≡ u.sequence → t.head ≡ u.head → t.tail ≡ u.tail → t.root ≡ u.root → t.height ≡ u.height → t.version ≡ u.version → t ≡ u
same_slot t u a b c d e f =
    let made : ℕ → ℕ → ℕ → ℕ → ℕ → Version → Slot = λ sequence head tail root height version.
    record { sequence = sequence; head = head; tail = tail; root = root; height = height; version = version } in
    ap (λ x. made x t.head t.tail t.root t.height t.version) a
    ∙ ap (λ x. made u.sequence x t.tail t.root t.height t.version) b
    ∙ ap (λ x. made u.sequence u.head x t.root t.height t.version) c
    ∙ ap (λ x. made u.sequence u.head u.tail x t.height t.version) d
    ∙ ap (λ x. made u.sequence u.head u.tail u.root x t.version) e
    ∙ ap (λ x. made u.sequence u.head u.tail u.root u.height x) f

-- a version is read back from its number, which has four bytes
version-back : (v : Version) → version_in (version_number v) ≡ v
version-back One = refl
version-back Two = refl

version_small : (v : Version) → version_number v < 2 ^ 32
version_small One = omega arith
version_small Two = omega arith

module _ (s : Settings) (n : ℕ) (t : Slot) (some : 0 < s.seg_size) where
  -- the bytes after each number of the slot
  abbrev after_version : List ℕ
  after_version = replicate 16 0

  abbrev after_height : List ℕ
  after_height = (number 4).encode (version_number t.version) ++ after_version

  abbrev after_root : List ℕ
  after_root = (number 4).encode t.height ++ after_height

  abbrev after_tail : List ℕ
  after_tail = (number 8).encode t.root ++ after_root

  abbrev after_head : List ℕ
  after_head = (number 8).encode t.tail ++ after_tail

  abbrev after_sequence : List ℕ
  after_sequence = (number 8).encode t.head ++ after_head

  pub slot_stands : IsSlot s n t → slot_in (slot_bytes t) ≡ t
  slot_stands f =
      let first = head_small s n t some f in
      let few = f.sequence in
      let far = f.tail in
      let low = f.height in
      same_slot (slot_in (slot_bytes t)) t
      (ap number_or_0 (number-back 8 t.sequence (omega (arith, few.1)) after_sequence))
      (ap number_or_0 (number-back 8 t.head (omega arith) after_head))
      (ap number_or_0 (number-back 8 t.tail (omega arith) after_tail))
      (ap number_or_0 (number-back 8 t.root f.root after_root))
      (ap number_or_0 (number-back 4 t.height (omega (arith, low.1)) after_height))
      (ap (λ x. version_in (number_or_0 x)) (number-back 4 (version_number t.version) (version_small t.version) after_version) ∙ version-back t.version)

  pub open-back : is_slot s n t ≡ true → read_open s n (slot_bytes t) ≡ Ok (Some t)
  open-back h =
      let said : Slot → Result (Option Slot) Fault = λ u. if bytes_eq (slot_bytes u) (slot_bytes t) && is_slot s n u then Ok (Some u) else Err NoSlot in
      let kept : Bool → Result (Option Slot) Fault = λ b. if b then Ok (Some t) else Err NoSlot in
      ap said (slot_stands (slot-is s n t h))
      ∙ ap kept (and_from _ _ ((bytes_eq-Decides (slot_bytes t) (slot_bytes t)).1 refl) h)

-- two slots with the same bytes
pub one_slot : (s : Settings) (m n : ℕ) (t u : Slot) → 0 < s.seg_size → is_slot s m t ≡ true → is_slot s n u ≡ true → slot_bytes t ≡ slot_bytes u → t ≡ u
one_slot s m n t u some mt mu same = sym (slot_stands s m t some (slot-is s m t mt)) ∙ ap slot_in same ∙ slot_stands s n u some (slot-is s n u mu)

-- ---- slots of a disk

abbrev pub Said : Type 0
Said = Result (Option Slot) Fault

abbrev pub said : Slot → Said
said t = Ok (Some t)

-- the bytes of slot n
abbrev pub bytes_of_slot : ℕ → List ℕ → List ℕ
bytes_of_slot n disk = take 64 (drop (slot_place n) disk)

pub gate_is_first : (place : ℕ) (disk : List ℕ) → get_or (take 64 (drop place disk)) 0 0 ≡ get_or disk place 0
gate_is_first place disk =
    let first : get_or (take 64 (drop place disk)) 0 0 ≡ get_or disk (place + 0) 0 = search (rules, places) in
    let same : place + 0 ≡ place = omega arith in
    first ∙ ap (λ (i : ℕ). get_or disk i 0) same

pub gate_stands : (n : ℕ) (t : Slot) (disk : List ℕ) → bytes_of_slot n disk ≡ slot_bytes t → is_open n disk ≡ true
gate_stands n t disk stands = ap (λ (b : ℕ). b == 1) (sym (gate_is_first (slot_place n) disk) ∙ ap (λ (bs : List ℕ). get_or bs 0 0) stands)

-- the contents of an open slot, and of a closed one
pub opened : (s : Settings) (n : ℕ) (disk : List ℕ) → is_open n disk ≡ true → read_slot s n disk ≡ read_open s n (bytes_of_slot n disk)
opened s n disk is = let none : Said = Ok None in ap (λ (b : Bool). if b then read_open s n (bytes_of_slot n disk) else none) is

pub closed : (s : Settings) (n : ℕ) (disk : List ℕ) → is_open n disk ≡ false → read_slot s n disk ≡ Ok None
closed s n disk is = let none : Said = Ok None in ap (λ (b : Bool). if b then read_open s n (bytes_of_slot n disk) else none) is

pub slot-back : (s : Settings) (n : ℕ) (t : Slot) (disk : List ℕ) → 0 < s.seg_size → is_slot s n t ≡ true → bytes_of_slot n disk ≡ slot_bytes t → read_slot s n disk ≡ said t
slot-back s n t disk some good stands =
    opened s n disk (gate_stands n t disk stands) ∙ ap (read_open s n) stands ∙ open-back s n t some good

-- a slot with these bytes that may say this
pub record Stands (s : Settings) (n : ℕ) (t : Slot) (disk : List ℕ) : Type 0 where
  pub bytes : bytes_of_slot n disk ≡ slot_bytes t
  pub good : is_slot s n t ≡ true

chosen : (b : Bool) (x t : Slot) → (let none : Said = Err NoSlot in (if b then said x else none) ≡ said t) → (b ≡ true) × (x ≡ t)
chosen true x t h = (refl, cc)
chosen false x t h = absurd (cc)

open-stands : (s : Settings) (n : ℕ) (t : Slot) (bytes : List ℕ) → read_open s n bytes ≡ said t → (bytes ≡ slot_bytes t) × (is_slot s n t ≡ true)
open-stands s n t bytes h =
    let (passed, is) = chosen _ (slot_in bytes) t h in
    let (same, good) = and_parts (bytes_eq (slot_bytes (slot_in bytes)) bytes) (is_slot s n (slot_in bytes)) passed in (
      sym ((bytes_eq-Decides (slot_bytes (slot_in bytes)) bytes).0 same) ∙ ap slot_bytes is,
      ap (is_slot s n) (sym is) ∙ good,
    )

pub slot-stands : (s : Settings) (n : ℕ) (t : Slot) (disk : List ℕ) → read_slot s n disk ≡ said t → Stands s n t disk
slot-stands s n t disk = of (is_open n disk) refl
  where
    of : (b : Bool) → is_open n disk ≡ b → (let none : Said = Ok None in (if b then read_open s n (bytes_of_slot n disk) else none) ≡ said t) → Stands s n t disk
    of true is h = let (bytes, good) = open-stands s n t (bytes_of_slot n disk) h in record { bytes = bytes; good = good }
    of false is h = absurd (cc)

-- ---- the store's slot

-- two numbers with the same remainder are of one slot
pub same_number : (s : Settings) (m n : ℕ) (disk : List ℕ) → m % 2 ≡ n % 2 → read_slot s m disk ≡ read_slot s n disk
same_number s m n disk same = rw same refl

newer-gave : (a b : Said) (t : Slot) → newer a b ≡ Ok t → (a ≡ said t) ⊎ (b ≡ said t)
newer-gave (Err fault) b t h = absurd (cc)
newer-gave (Ok x) (Err fault) t h = absurd (cc)
newer-gave (Ok None) (Ok None) t h = absurd (cc)
newer-gave (Ok (Some x)) (Ok None) t h = let is : x ≡ t = cc in inl (ap said is)
newer-gave (Ok None) (Ok (Some y)) t h = let is : y ≡ t = cc in inr (ap said is)
newer-gave (Ok (Some x)) (Ok (Some y)) t h = of (nat_lt x.sequence y.sequence) h
  where
    of : (b : Bool) → (let r : Result Slot Fault = Ok (if b then y else x) in r ≡ Ok t) → (said x ≡ said t) ⊎ (said y ≡ said t)
    of true h = let is : y ≡ t = cc in inr (ap said is)
    of false h = let is : x ≡ t = cc in inl (ap said is)

-- it is read from the slot of its own number
pub store_slot-read : (s : Settings) (disk : List ℕ) (t : Slot) → store_slot s disk ≡ Ok t → read_slot s t.sequence disk ≡ said t
store_slot-read s disk t h = ⊎_elim (of 0) (of 1) (newer-gave (read_slot s 0 disk) (read_slot s 1 disk) t h)
  where
    of : (n : ℕ) → read_slot s n disk ≡ said t → read_slot s t.sequence disk ≡ said t
    of n read = same_number s t.sequence n disk (slot-is s n t (slot-stands s n t disk read).good).own ∙ read

-- the two slots, by a number and the next one
two_slots : (s : Settings) (n : ℕ) (disk : List ℕ) → (store_slot s disk ≡ newer (read_slot s n disk) (read_slot s (suc n) disk)) ⊎ (store_slot s disk ≡ newer (read_slot s (suc n) disk) (read_slot s n disk))
two_slots s n disk = elim (cases_eq (n % 2) 0) [
  | inl even ↦ inl (ap₂ newer (same_number s 0 n disk (omega arith)) (same_number s 1 (suc n) disk (omega arith)))
  | inr odd ↦ inr (ap₂ newer (same_number s 0 (suc n) disk (omega arith)) (same_number s 1 n disk (omega arith)))
]

-- the next slot is closed: it is the store's
pub store_slot-alone : (s : Settings) (disk : List ℕ) (t : Slot) → read_slot s t.sequence disk ≡ said t → read_slot s (suc t.sequence) disk ≡ Ok None → store_slot s disk ≡ Ok t
store_slot-alone s disk t here next = ⊎_elim
    (λ is. is ∙ ap₂ newer here next)
    (λ is. is ∙ ap₂ newer next here)
    (two_slots s t.sequence disk)

-- the next slot is open: that is the store's
pub store_slot-next : (s : Settings) (disk : List ℕ) (t u : Slot) → read_slot s t.sequence disk ≡ said t → read_slot s (suc t.sequence) disk ≡ said u → t.sequence < u.sequence → store_slot s disk ≡ Ok u
store_slot-next s disk t u here next later = ⊎_elim
    (λ is. is ∙ ap₂ newer here next ∙ ap (λ (b : Bool). let r : Result Slot Fault = Ok (if b then u else t) in r) (lt-ltb t.sequence u.sequence later))
    (λ is. is ∙ ap₂ newer next here ∙ ap (λ (b : Bool). let r : Result Slot Fault = Ok (if b then t else u) in r) (le-ltb u.sequence t.sequence (omega arith)))
    (two_slots s t.sequence disk)

-- ---- of all slots

-- any number's slot is one of the two
one_of_two : (s : Settings) (n : ℕ) (disk : List ℕ) → (read_slot s n disk ≡ read_slot s 0 disk) ⊎ (read_slot s n disk ≡ read_slot s 1 disk)
one_of_two s n disk = elim (cases_eq (n % 2) 0) [
  | inl even ↦ inl (same_number s n 0 disk (omega arith))
  | inr odd ↦ inr (same_number s n 1 disk (omega arith))
]

no_less : (b : Bool) (x y t : Slot) → nat_lt x.sequence y.sequence ≡ b → (let r : Result Slot Fault = Ok (if b then y else x) in r ≡ Ok t) → (x.sequence ≤ t.sequence) × (y.sequence ≤ t.sequence)
no_less true x y t less h =
    let is : y ≡ t = cc in
    let below = ltb-true x.sequence y.sequence less in
    subst (λ (z : Slot). (x.sequence ≤ z.sequence) × (y.sequence ≤ z.sequence)) is (omega arith, omega arith)
no_less false x y t less h =
    let is : x ≡ t = cc in
    let below = ltb-false x.sequence y.sequence less in
    subst (λ (z : Slot). (x.sequence ≤ z.sequence) × (y.sequence ≤ z.sequence)) is (omega arith, omega arith)

no_less_than : (a b : Said) (t u : Slot) → newer a b ≡ Ok t → (a ≡ said u) ⊎ (b ≡ said u) → u.sequence ≤ t.sequence
no_less_than (Err fault) b t u h which = absurd (cc)
no_less_than (Ok x) (Err fault) t u h which = absurd (cc)
no_less_than (Ok None) (Ok None) t u h which = absurd (cc)
no_less_than (Ok (Some x)) (Ok None) t u h (inl same) = let is : t ≡ u = cc in (let e = ap (λ (z : Slot). z.sequence) is in omega arith)
no_less_than (Ok (Some x)) (Ok None) t u h (inr same) = absurd (cc)
no_less_than (Ok None) (Ok (Some y)) t u h (inl same) = absurd (cc)
no_less_than (Ok None) (Ok (Some y)) t u h (inr same) = let is : t ≡ u = cc in (let e = ap (λ (z : Slot). z.sequence) is in omega arith)
no_less_than (Ok (Some x)) (Ok (Some y)) t u h (inl same) =
    let is : x ≡ u = cc in
    let e = ap (λ (z : Slot). z.sequence) is in
    let both = no_less (nat_lt x.sequence y.sequence) x y t refl h in
    omega (arith, e, both.0)
no_less_than (Ok (Some x)) (Ok (Some y)) t u h (inr same) =
    let is : y ≡ u = cc in
    let e = ap (λ (z : Slot). z.sequence) is in
    let both = no_less (nat_lt x.sequence y.sequence) x y t refl h in
    omega (arith, e, both.1)

-- no open slot has a greater number than the store's
pub store_slot-newest : (s : Settings) (disk : List ℕ) (t u : Slot) (n : ℕ) → store_slot s disk ≡ Ok t → read_slot s n disk ≡ said u → u.sequence ≤ t.sequence
store_slot-newest s disk t u n h read =
    no_less_than (read_slot s 0 disk) (read_slot s 1 disk) t u h
    (⊎_elim (λ first. inl (sym first ∙ read)) (λ second. inr (sym second ∙ read)) (one_of_two s n disk))

-- ---- no slot

open-fault : (b : Bool) (t : Slot) (fault : Fault) → (let no : Said = Err NoSlot in let r : Said = Err fault in (if b then said t else no) ≡ r) → fault ≡ NoSlot
open-fault true t fault h = absurd (cc)
open-fault false t fault h = cc

slot-fault : (s : Settings) (n : ℕ) (disk : List ℕ) (fault : Fault) → read_slot s n disk ≡ Err fault → fault ≡ NoSlot
slot-fault s n disk fault = of (is_open n disk)
  where
    of : (b : Bool) → (let none : Said = Ok None in let r : Said = Err fault in (if b then read_open s n (bytes_of_slot n disk) else none) ≡ r) → fault ≡ NoSlot
    of true h = open-fault (bytes_eq (slot_bytes (slot_in (bytes_of_slot n disk))) (bytes_of_slot n disk) && is_slot s n (slot_in (bytes_of_slot n disk))) (slot_in (bytes_of_slot n disk)) fault h
    of false h = absurd (cc)

pub shut : (s : Settings) (n : ℕ) (disk : List ℕ) → read_slot s n disk ≡ Ok None → is_open n disk ≡ false
shut s n disk = of (is_open n disk) refl
  where
    not_none : (b : Bool) (t : Slot) → (let no : Said = Err NoSlot in let none : Said = Ok None in (if b then said t else no) ≡ none) → ⊥
    not_none true t h = absurd (cc)
    not_none false t h = absurd (cc)

    of : (b : Bool) → is_open n disk ≡ b → (let none : Said = Ok None in (if b then read_open s n (bytes_of_slot n disk) else none) ≡ none) → is_open n disk ≡ false
    of true is h = absurd (not_none (bytes_eq (slot_bytes (slot_in (bytes_of_slot n disk))) (bytes_of_slot n disk) && is_slot s n (slot_in (bytes_of_slot n disk))) (slot_in (bytes_of_slot n disk)) h)
    of false is h = is

-- why there is none: no gate is open, or an open slot is not well formed
pub store_slot-none : (s : Settings) (disk : List ℕ) (fault : Fault) → store_slot s disk ≡ Err fault →
    (fault ≡ NoSlot) × (((is_open 0 disk ≡ false) × (is_open 1 disk ≡ false)) ⊎ ((n : ℕ) × (read_slot s n disk ≡ Err NoSlot)))
store_slot-none s disk fault h = of (read_slot s 0 disk) (read_slot s 1 disk) refl refl h
  where
    refused : (n : ℕ) (f : Fault) → read_slot s n disk ≡ Err f → f ≡ fault → (fault ≡ NoSlot) × (((is_open 0 disk ≡ false) × (is_open 1 disk ≡ false)) ⊎ ((n : ℕ) × (read_slot s n disk ≡ Err NoSlot)))
    refused n f read is =
        let no : f ≡ NoSlot = slot-fault s n disk f read in
        (sym is ∙ no, inr (n, read ∙ ap (λ (g : Fault). let r : Said = Err g in r) no))

    of : (a b : Said) → read_slot s 0 disk ≡ a → read_slot s 1 disk ≡ b → newer a b ≡ Err fault → (fault ≡ NoSlot) × (((is_open 0 disk ≡ false) × (is_open 1 disk ≡ false)) ⊎ ((n : ℕ) × (read_slot s n disk ≡ Err NoSlot)))
    of (Err f) b first second h = let is : f ≡ fault = cc in refused 0 f first is
    of (Ok x) (Err f) first second h = let is : f ≡ fault = cc in refused 1 f second is
    of (Ok None) (Ok None) first second h = let is : NoSlot ≡ fault = cc in (sym is, inl (shut s 0 disk first, shut s 1 disk second))
    of (Ok (Some t)) (Ok None) first second h = absurd (cc)
    of (Ok None) (Ok (Some u)) first second h = absurd (cc)
    of (Ok (Some t)) (Ok (Some u)) first second h = absurd (cc)

-- and then there is none
pub none_open : (s : Settings) (disk : List ℕ) → is_open 0 disk ≡ false → is_open 1 disk ≡ false → store_slot s disk ≡ Err NoSlot
none_open s disk first second = ap₂ newer (closed s 0 disk first) (closed s 1 disk second)

pub one_refused : (s : Settings) (n : ℕ) (disk : List ℕ) → read_slot s n disk ≡ Err NoSlot → store_slot s disk ≡ Err NoSlot
one_refused s n disk h = ⊎_elim
    (λ first. ap (λ (a : Said). newer a (read_slot s 1 disk)) (sym first ∙ h))
    (λ second. ap (newer (read_slot s 0 disk)) (sym second ∙ h) ∙ of (read_slot s 0 disk) refl)
    (one_of_two s n disk)
  where
    of : (a : Said) → read_slot s 0 disk ≡ a → newer a (Err NoSlot) ≡ Err NoSlot
    of (Err f) is = ap (λ (g : Fault). let r : Result Slot Fault = Err g in r) (slot-fault s 0 disk f is)
    of (Ok x) is = refl

-- the ends of a slot that is well formed
pub ends-are : (s : Settings) (t : Slot) → is_slot s t.sequence t ≡ true → AreEnds s (ends_in t)
ends-are s t h =
    let is = slot-is s t.sequence t h in
    record { number = is.sequence.1; after = is.following; tail = is.tail; last = is.last }
