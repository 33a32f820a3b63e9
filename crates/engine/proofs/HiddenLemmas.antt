-- The view of a disk whose first byte is exchanged, and its consequences for the disk.
use Rattle.std.proofs.Common.{◌≡◌, ◌≢◌, ◌⊎◌, ◌↔◌, inl, inr, ⊎_elim, ℕ, zero, suc, ◌+◌, ◌-◌, ◌<◌, ◌≤◌, ◌==◌, Bool, true, false, nat_eq, List, [], ◌∷◌, ◌++◌, length, get_or, take, drop, refl, sym, ap, subst, ◌∙◌, arith, Option, Some, None, Result, Ok, Err, OnOk, eqb-true}
use Rattle.std.proofs.lemmas.List.{ext_get_or, get_or-drop, get_or-take, length-drop, length-take, take-take}
use Rattle.std.proofs.lemmas.Bool.{cases_eq}
use Rattle.keys.specs.declared.fault.Fault.TheVariants.{NotAStore}
use Rattle.keys.specs.declared.settings.Settings.{Settings}
use Rattle.flush_log.specs.Overlay.{overlay, IsBeside, AgreeAt}
use Rattle.flush_log.specs.Disk.{View, Lawful, IsSynced, Torn, Same, Elapses, Leaves, LeavesOnly}
use Rattle.flush_log.proofs.ViewLemmas.{then, leaves_only}
use Rattle.flush_log.specs.SettingsBlock.{store_magic, read_settings, where_it_has_room}
use Rattle.flush_log.proofs.OverlayLemmas.{length-overlay, overlay-at, overlay-beside, overlay-is}
use Rattle.flush_log.proofs.SettingsLemmas.{settings-stand}
use Rattle.engine.specs.Hidden.{exchanged_byte, exchanged, exchanged_view, HoldsNoStore, IsCleared, IsLeftHiding, IsLeftRevealing, revealed}

-- ---- bytes

pub byte_back : (b : ℕ) → exchanged_byte (exchanged_byte b) ≡ b
byte_back b = of (nat_eq b 0) (nat_eq b 66) refl refl
  where
    of : (t u : Bool) → nat_eq b 0 ≡ t → nat_eq b 66 ≡ u → exchanged_byte (exchanged_byte b) ≡ b
    of true u e f = let is : b ≡ 0 = eqb-true b 0 e in rw is refl
    of false true e f = let is : b ≡ 66 = eqb-true b 66 f in rw is refl
    of false false e f = rw (e, f) (rw (e, f) refl)

pub bytes_back : (c : List ℕ) → exchanged (exchanged c) ≡ c
bytes_back [] = refl
bytes_back (b ∷ c) = ap (λ (x : ℕ). x ∷ c) (byte_back b)

pub length-exchanged : (c : List ℕ) → length (exchanged c) ≡ length c
length-exchanged [] = refl
length-exchanged (b ∷ c) = refl

-- the byte at each place
exchanged-first : (b : ℕ) (c : List ℕ) → get_or (exchanged (b ∷ c)) 0 0 ≡ exchanged_byte b
exchanged-first b c = refl

pub exchanged-other : (c : List ℕ) (i : ℕ) → get_or (exchanged c) (suc i) 0 ≡ get_or c (suc i) 0
exchanged-other [] i = refl
exchanged-other (b ∷ c) i = refl

same_first : (d e : List ℕ) → length e ≡ length d → get_or e 0 0 ≡ get_or d 0 0 → get_or (exchanged e) 0 0 ≡ get_or (exchanged d) 0 0
same_first [] [] long same = refl
same_first (b ∷ d) [] long same = absurd (cc)
same_first [] (b ∷ e) long same = absurd (cc)
same_first (a ∷ d) (b ∷ e) long same = ap exchanged_byte same

-- files that agree at some places still do
pub agree_exchanged : (Such : ℕ → Type 0) (d e : List ℕ) → AgreeAt Such d e → AgreeAt Such (exchanged d) (exchanged e)
agree_exchanged Such d e same = record {
  long = length-exchanged e ∙ same.long ∙ sym (length-exchanged d);
  same = λ i such. each i such;
}
  where
    each : (i : ℕ) → Such i → get_or (exchanged e) i 0 ≡ get_or (exchanged d) i 0
    each zero such = same_first d e same.long (same.same zero such)
    each (suc i) such = exchanged-other e i ∙ same.same (suc i) such ∙ sym (exchanged-other d i)

-- a write from the second byte on
pub over_later : (file : List ℕ) (at : ℕ) (bytes : List ℕ) → suc at + length bytes ≤ length file → exchanged (overlay file (suc at) bytes) ≡ overlay (exchanged file) (suc at) bytes
over_later [] at bytes fits = absurd (omega (arith, fits))
over_later (f ∷ file) at bytes fits =
    let more : suc at + length bytes ≡ suc (at + length bytes) = omega arith in
    ap (λ (k : ℕ). exchanged (take (suc at) (f ∷ file) ++ (bytes ++ drop k (f ∷ file)))) more
    ∙ ap (λ (k : ℕ). take (suc at) (exchanged (f ∷ file)) ++ (bytes ++ drop k (exchanged (f ∷ file)))) (sym more)

-- a write from the first byte on: that byte exchanged, and then the others
pub over_first : (file : List ℕ) (b : ℕ) (bytes : List ℕ) → 1 ≤ length file → exchanged (overlay (overlay file 0 (exchanged_byte b ∷ [])) 1 bytes) ≡ overlay (exchanged file) 0 (b ∷ bytes)
over_first [] b bytes fits = absurd (omega (arith, fits))
over_first (f ∷ file) b bytes fits =
    let more : 1 + length bytes ≡ suc (length bytes) = omega arith in
    let none : suc (length bytes) ≡ 0 + suc (length bytes) = omega arith in
    ap (λ (k : ℕ). exchanged (exchanged_byte b ∷ (bytes ++ drop k (exchanged_byte b ∷ file)))) more
    ∙ ap (λ (x : ℕ). x ∷ (bytes ++ drop (length bytes) file)) (byte_back b)
    ∙ ap (λ (k : ℕ). b ∷ (bytes ++ drop k (exchanged (f ∷ file)))) none

-- a write elsewhere, or of no bytes
over_rest : (file : List ℕ) (at : ℕ) (bytes : List ℕ) → (0 < at) ⊎ (length bytes ≡ 0) → at + length bytes ≤ length file → exchanged (overlay file at bytes) ≡ overlay (exchanged file) at bytes
over_rest file zero [] where_it_is fits = refl
over_rest file zero (b ∷ bytes) (inl low) fits = absurd (omega (arith, low))
over_rest file zero (b ∷ bytes) (inr none) fits = absurd (omega (arith, none))
over_rest file (suc at) bytes where_it_is fits = over_later file at bytes fits

pub written_rest : {E : Type 0} (r : Result (Unit {0}) E) (file new : List ℕ) (at : ℕ) (bytes : List ℕ) → (0 < at) ⊎ (length bytes ≡ 0) → at + length bytes ≤ length file
    → OnOk r (new ≡ overlay file at bytes) → OnOk r (exchanged new ≡ overlay (exchanged file) at bytes)
written_rest (Ok u) file new at bytes where_it_is fits is = ap exchanged is ∙ over_rest file at bytes where_it_is fits
written_rest (Err e) file new at bytes where_it_is fits is = tt

-- a nonempty string has at least one byte
pub some_bytes : (bytes : List ℕ) → (length bytes == 0) ≡ false → 1 ≤ length bytes
some_bytes [] h = absurd (cc)
some_bytes (b ∷ bytes) h = omega arith

-- and one more than those after the first
pub rest_less : (bytes : List ℕ) → 1 ≤ length bytes → 1 + length (take (length bytes - 1) (drop 1 bytes)) ≤ length bytes
rest_less bytes some =
    let taken = length-take (length bytes - 1) (drop 1 bytes) in
    omega (arith, taken, some)

-- the first byte was torn, and then some after it
pub torn_two : (d e f : List ℕ) (at few n : ℕ) → at ≡ 0 → 1 + few ≤ n → Torn 0 1 d e → Torn 1 few e f → Torn at n d f
torn_two d e f at few n first more one two = record {
  long = two.long ∙ one.long;
  same = λ i beside. ⊎_elim
      (λ low. absurd (omega (arith, low, first)))
      (λ high. two.same i (inr (omega (arith, high, more))) ∙ one.same i (inr (omega (arith, high, more))))
      beside;
}

-- or only that one
pub torn_one : (d e : List ℕ) (at n : ℕ) → at ≡ 0 → 1 ≤ n → Torn 0 1 d e → Torn at n d e
torn_one d e at n first more one = record {
  long = one.long;
  same = λ i beside. ⊎_elim (λ low. absurd (omega (arith, low, first))) (λ high. one.same i (inr (omega (arith, high, more)))) beside;
}

-- ---- views

same_left : (v w : List ℕ → Type 0) → ((c : List ℕ) → w c ↔ v c) → (c : List ℕ) → ((below : List ℕ) × w below × (c ≡ exchanged below)) ↔ ((below : List ℕ) × v below × (c ≡ exchanged below))
same_left v w same c = (λ left. (left.0, (same left.0).0 left.1, left.2), λ left. (left.0, (same left.0).1 left.1, left.2))

pub same_exchanged : (a b : View) → Same a b → Same (exchanged_view a) (exchanged_view b)
same_exchanged a b same = record {
  seen = ap exchanged same.seen;
  may_leave = λ c. same_left a.may_leave b.may_leave same.may_leave c;
  moment = same.moment;
  left_since = λ t c. same_left (a.left_since t) (b.left_since t) (same.left_since t) c;
}

elapses_exchanged : (a b : View) → Elapses a b → Elapses (exchanged_view a) (exchanged_view b)
elapses_exchanged a b time = record {
  later = time.later;
  splits = λ t c le left. ⊎_elim (λ was. inl (left.0, was, left.2)) (λ now. inr (left.0, now, left.2)) (time.splits t left.0 le left.1);
  keeps = λ t c le left. ⊎_elim (λ was. (was.0, time.keeps t was.0 le (inl was.1), was.2)) (λ now. (now.0, time.keeps t now.0 le (inr now.1), now.2)) left;
}

-- a run by steps, with the first byte exchanged
leaves_exchanged : (a b : View) (step : List ℕ → List ℕ → Type 0) → ((d e : List ℕ) → step d e → step (exchanged d) (exchanged e)) → Leaves a b step → Leaves (exchanged_view a) (exchanged_view b) step
leaves_exchanged a b step so run = record {
  time = elapses_exchanged a b run.time;
  crash = λ c left.
      let from = run.crash left.0 left.1 in
      (exchanged from.0, (from.0, from.1, refl), subst (λ (e : List ℕ). step (exchanged from.0) e) (sym left.2) (so from.0 left.0 from.2));
}

pub torn_exchanged : (a b : View) (at n : ℕ) → Leaves a b (Torn at n) → Leaves (exchanged_view a) (exchanged_view b) (Torn at n)
torn_exchanged a b at n run = leaves_exchanged a b (Torn at n) (λ d e torn. agree_exchanged (IsBeside at n) d e torn) run

pub leaves_two : (a b c : View) (at few n : ℕ) → at ≡ 0 → 1 + few ≤ n → Lawful b → Leaves a b (Torn 0 1) → Leaves b c (Torn 1 few) → Leaves (exchanged_view a) (exchanged_view c) (Torn at n)
leaves_two a b c at few n first more law one two =
    torn_exchanged a c at n
    ((then) a b c (Torn 0 1) (Torn 1 few) (Torn at n) law (λ d e f x y. torn_two d e f at few n first more x y) (λ d e x. torn_one d e at n first (omega (arith, more)) x) one two)

pub leaves_one : (a b : View) (at n : ℕ) → at ≡ 0 → 1 ≤ n → Leaves a b (Torn 0 1) → Leaves (exchanged_view a) (exchanged_view b) (Torn at n)
leaves_one a b at n first more one =
    torn_exchanged a b at n (record { time = one.time; crash = λ c left. let from = one.crash c left in (from.0, from.1, torn_one from.0 c at n first more from.2) })

pub synced_exchanged : (a b : View) → Leaves a b (λ before c. c ≡ before) → Leaves (exchanged_view a) (exchanged_view b) (λ before c. c ≡ before)
synced_exchanged a b run = leaves_exchanged a b (λ before c. c ≡ before) (λ d e is. ap exchanged is) run

pub settled_exchanged : (v : View) → IsSynced v → IsSynced (exchanged_view v)
settled_exchanged v is_synced = record {
  honest = is_synced.honest;
  only = λ c left. left.2 ∙ ap exchanged (is_synced.only left.0 left.1);
}

-- ---- the facts about a disk that follow from its view

exchanged_same : (c d : List ℕ) → exchanged c ≡ exchanged d → c ≡ d
exchanged_same c d same = sym (bytes_back c) ∙ ap exchanged same ∙ bytes_back d

pub settled_back : (v : View) → IsSynced (exchanged_view v) → IsSynced v
settled_back v is_synced = record {
  honest = is_synced.honest;
  only = λ c left. exchanged_same c v.seen (is_synced.only (exchanged c) (c, left, refl));
}

pub only_back : (a b : View) (P : List ℕ → Type 0) → LeavesOnly (exchanged_view a) (exchanged_view b) P → LeavesOnly a b (λ c. P (exchanged c))
only_back a b P run = record {
  later = run.later;
  each = λ c left. run.each (exchanged c) (c, left, refl);
  before = λ t c le left. ⊎_elim
      (λ was. inl (subst (a.left_since t) (exchanged_same was.0 c (sym was.2)) was.1))
      (λ now. inr now)
      (run.before t (exchanged c) le (c, left, refl));
}

-- ---- bytes that encode no store

none_by : (c : List ℕ) (o : Option Settings) → take 8 c ≢ store_magic → read_settings (take 64 c) ≡ o → where_it_has_room c o ≡ Err NotAStore
none_by c None other is = refl
none_by c (Some s) other is =
    absurd (other (sym (take-take 8 64 c (omega arith)) ∙ ap (take 8) (settings-stand (take 64 c) s is).0))

-- without the magic word of a settings block
pub no_magic : (c : List ℕ) → take 8 c ≢ store_magic → HoldsNoStore c
no_magic c other = none_by c (read_settings (take 64 c)) other refl

pub first_other : (c : List ℕ) → get_or c 0 0 ≢ 66 → HoldsNoStore c
first_other c other = no_magic c (λ is. other (sym (get_or-take 8 c 0 0 (omega arith)) ∙ ap (λ (bytes : List ℕ). get_or bytes 0 0) is))

second_other : (c : List ℕ) → get_or c 1 0 ≢ 87 → HoldsNoStore c
second_other c other = no_magic c (λ is. other (sym (get_or-take 8 c 1 0 (omega arith)) ∙ ap (λ (bytes : List ℕ). get_or bytes 1 0) is))

-- ---- the first byte of a store is torn

-- the outcomes: the same store, or no store
torn_away : (file c : List ℕ) → get_or file 0 0 ≡ 66 → Torn 0 1 file c → IsLeftHiding file c
torn_away file c store torn = elim (cases_eq (get_or c 0 0) 66) [
  | inl same ↦ inl (ext_get_or 0 c file torn.long (λ i less. each i same))
  | inr other ↦ inr (first_other c other)
]
  where
    each : (i : ℕ) → get_or c 0 0 ≡ 66 → get_or c i 0 ≡ get_or file i 0
    each zero same = same ∙ sym store
    each (suc i) same = torn.same (suc i) (inr (omega arith))

module _ (old new : View) (is_synced : IsSynced old) where
  pub store_hidden : get_or old.seen 0 0 ≡ 66 → Leaves old new (Torn 0 1) → LeavesOnly old new (IsLeftHiding old.seen)
  store_hidden store run =
      leaves_only old new (Torn 0 1) (IsLeftHiding old.seen)
      (λ d c might torn. torn_away old.seen c store (subst (λ (f : List ℕ). Torn 0 1 f c) (is_synced.only d might) torn)) run

  -- the first byte of no store stays while others are written
  pub others_written : (n : ℕ) → get_or old.seen 0 0 ≢ 66 → Leaves old new (Torn 1 n) → LeavesOnly old new HoldsNoStore
  others_written n other run =
      leaves_only old new (Torn 1 n) HoldsNoStore
      (λ d c might torn. first_other c (λ is. other (sym (torn.same 0 (inl (omega arith)) ∙ ap (λ (f : List ℕ). get_or f 0 0) (is_synced.only d might)) ∙ is))) run

  -- while the second byte is 0, the first may be any byte
  pub first_written : get_or old.seen 1 0 ≡ 0 → Leaves old new (Torn 0 1) → LeavesOnly old new HoldsNoStore
  first_written none run =
      leaves_only old new (Torn 0 1) HoldsNoStore
      (λ d c might torn. second_other c (λ is. absurd (second (torn.same 1 (inr (omega arith)) ∙ ap (λ (f : List ℕ). get_or f 1 0) (is_synced.only d might) ∙ none) is))) run
    where
      second : {b : ℕ} → b ≡ 0 → b ≡ 87 → ⊥
      second nothing is = omega (arith, nothing, is)

  -- the first byte becomes that of a store
  pub store_revealed : 1 ≤ length old.seen → Leaves old new (Torn 0 1) → LeavesOnly old new (IsLeftRevealing old.seen)
  store_revealed some run =
      leaves_only old new (Torn 0 1) (IsLeftRevealing old.seen)
      (λ d c might torn. by old.seen c some (subst (λ (f : List ℕ). Torn 0 1 f c) (is_synced.only d might) torn)) run
    where
      by : (file c : List ℕ) → 1 ≤ length file → Torn 0 1 file c → IsLeftRevealing file c
      by file c some torn = elim (cases_eq (get_or c 0 0) 66) [
        | inl same ↦ inr (overlay-is file c 0 (66 ∷ []) (omega (arith, some)) torn (λ i less. first i less same))
        | inr other ↦ inl (first_other c other)
      ]
        where
          first : (i : ℕ) → i < 1 → get_or c 0 0 ≡ 66 → get_or c (0 + i) 0 ≡ get_or (66 ∷ []) i 0
          first zero less same = same
          first (suc i) less same = absurd (omega (arith, less))

pub second_is : (file new : List ℕ) → 2 ≤ length file → new ≡ overlay file 1 (0 ∷ []) → get_or new 1 0 ≡ 0
second_is file new room is = ap (λ (f : List ℕ). get_or f 1 0) is ∙ overlay-at file 1 (0 ∷ []) 1 0 (omega (arith, room)) (omega arith) (omega arith)

-- ---- writes to a hidden store

exchanged_zero : (c : List ℕ) → 1 ≤ length c → get_or c 0 0 ≡ 0 → get_or (exchanged c) 0 0 ≡ 66
exchanged_zero [] some is = absurd (omega (arith, some))
exchanged_zero (b ∷ c) some is = ap exchanged_byte is

-- a file, the cleared file, and the cleared file with all bytes of a store except the first
pub hidden_is : (file mid bytes : List ℕ) → 2 ≤ length bytes → length bytes ≤ length file → get_or bytes 0 0 ≡ 66 → IsCleared file mid
    → exchanged (overlay mid 1 (take (length bytes - 1) (drop 1 bytes))) ≡ overlay file 0 bytes
hidden_is file mid bytes some room store cleared =
    overlay-is file (exchanged new) 0 bytes (omega (arith, room)) (record { long = length-exchanged new ∙ length-overlay mid 1 rest fits ∙ cleared.same.long; same = λ i beside. outside i beside }) (λ i less. inside i less)
  where
    rest : List ℕ
    rest = take (length bytes - 1) (drop 1 bytes)

    new : List ℕ
    new = overlay mid 1 rest

    rest_long : length rest ≡ length bytes - 1
    rest_long = let taken = length-take (length bytes - 1) (drop 1 bytes) in let dropped = length-drop 1 bytes in omega (arith, taken, dropped)

    fits : 1 + length rest ≤ length mid
    fits = let same = cleared.same.long in let long = rest_long in omega (arith, same, long, room, some)

    outside : (i : ℕ) → IsBeside 0 (length bytes) i → get_or (exchanged new) i 0 ≡ get_or file i 0
    outside i (inl low) = absurd (omega (arith, low))
    outside zero (inr high) = absurd (omega (arith, high, some))
    outside (suc i) (inr high) =
        let long = rest_long in
        exchanged-other new i ∙ (overlay-beside mid 1 rest fits).same (suc i) (inr (omega (arith, high, long, some))) ∙ cleared.same.same (suc i) (inr (omega (arith, high, some)))

    inside : (i : ℕ) → i < length bytes → get_or (exchanged new) (0 + i) 0 ≡ get_or bytes i 0
    inside zero less =
        let long = length-overlay mid 1 rest fits in
        exchanged_zero new (let enough = fits in omega (arith, long, enough)) ((overlay-beside mid 1 rest fits).same 0 (inl (omega arith)) ∙ cleared.first) ∙ sym store
    inside (suc i) less =
        let long = rest_long in
        let here : 0 + suc i ≡ suc i = omega arith in
        ap (λ (k : ℕ). get_or (exchanged new) k 0) here
        ∙ exchanged-other new i
        ∙ overlay-at mid 1 rest (suc i) i fits (omega arith) (omega (arith, less, long))
        ∙ get_or-take (length bytes - 1) (drop 1 bytes) i 0 (omega (arith, less))
        ∙ get_or-drop 1 bytes i 0
        ∙ ap (λ (k : ℕ). get_or bytes k 0) (let same : 1 + i ≡ suc i = omega arith in same)

pub on_ok : {X E : Type 0} (r : Result X E) (P Q : Type 0) → (P → Q) → OnOk r P → OnOk r Q
on_ok (Ok x) P Q so h = so h
on_ok (Err e) P Q so h = tt

-- ---- a store whose first byte is revealed

pub revealed_is : (below shown : List ℕ) → exchanged below ≡ shown → get_or shown 0 0 ≡ 66 → revealed below ≡ shown
revealed_is [] shown is store = absurd (let none : get_or shown 0 0 ≡ 0 = ap (λ (f : List ℕ). get_or f 0 0) (sym is) in omega (arith, none, store))
revealed_is (b ∷ below) shown is store = ap (λ (x : ℕ). x ∷ below) (sym store ∙ ap (λ (f : List ℕ). get_or f 0 0) (sym is)) ∙ is
