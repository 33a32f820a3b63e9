-- Allocating the least numbers without a place, one after the other, and making a place for each.
use Rattle.std.specs.Prelude.{◌≡◌, ◌≢◌, ℕ, zero, suc, Bool, ◌+◌, ◌-◌, ◌<◌, ◌≤◌, ◌⊎◌, true, false, List, [], ◌∷◌, ◌++◌, length, get_or}
use Rattle.std.proofs.Common.{refl, sym, ap, ◌∙◌, arith, subst, inl, inr}
use Rattle.std.proofs.lemmas.Bool.{cases_lt}
use Rattle.std.proofs.lemmas.List.FromFn.{map-range_with_len_more, length-map-range_with_len, get_or-map-range_with_len}
use Rattle.std.specs.Map.{keys_of}
use Rattle.mapping.specs.Proper.{AreRisingPids}
use Rattle.mapping.specs.LogState.{log_state}
use Rattle.mapping.specs.FreshPids.{is_among, unused}
use Rattle.mapping.specs.Table.{Mapping, pids_in_use, with_room, with_rooms, fresh_pids}
use Rattle.mapping.specs.Slots.{slot_pids, listed_place, listed_state, table_of, AreInUseBelow, AreSlots}
use Rattle.mapping.specs.declared.slots.TableSlot.{TableSlot}
use Rattle.mapping.proofs.PidLemmas.{unused-is_free, unused-rises, unused-leaves_none}
use Rattle.mapping.proofs.InUse.{among_kept, among_made}
use Rattle.mapping.proofs.Listing.{rising-listing}

-- ---- numbers

-- m of the least free numbers are allocated, at most `count`, and no free number below this one remains
pub record AreDrawn (used pids : List ℕ) (m count next : ℕ) : Type 0 where
  pub drawn : pids ≡ fresh_pids used m
  pub few : m ≤ count
  pub left : next ≤ unused used m
  pub passed : (j : ℕ) → j < m → unused used j < next

pub fresh_pids-more : (used : List ℕ) (n : ℕ) → fresh_pids used (n + 1) ≡ fresh_pids used n ++ unused used n ∷ []
fresh_pids-more used n = map-range_with_len_more (unused used) 0 n n (omega arith)

module _ (used : List ℕ) (rising : AreRisingPids used) where
  -- a number in use isn't the next free one
  apart : (n k : ℕ) → is_among k used ≡ true → k ≢ unused used n
  apart n k h e = let f : is_among k used ≡ false = rw e (unused-is_free used n rising) in absurd (cc)

  -- the least free number that isn't passed is the next
  next_free : (n k : ℕ) → is_among k used ≡ false → k ≤ unused used n → ((j : ℕ) → j < n → unused used j < k) → k ≡ unused used n
  next_free n k f l p = next_by (cases_lt k (unused used n))
    where
      next_by : (k < unused used n) ⊎ (unused used n ≤ k) → k ≡ unused used n
      next_by (inl h) = let at = unused-leaves_none used n k rising f h in let x = p at.0 at.1 in absurd (let e = at.2 in omega arith)
      next_by (inr h) = omega arith

  below_least : (n next : ℕ) → ((k : ℕ) → k < next → is_among k used ≡ true) → next ≤ unused used n
  below_least n next h = least_by (cases_lt (unused used n) next)
    where
      least_by : (unused used n < next) ⊎ (next ≤ unused used n) → next ≤ unused used n
      least_by (inl l) = absurd (apart n (unused used n) (h (unused used n) l) refl)
      least_by (inr l) = l

  pub none_drawn : (count next : ℕ) → ((k : ℕ) → k < next → is_among k used ≡ true) → AreDrawn used [] 0 count next
  none_drawn count next h = record { drawn = refl; few = omega arith; left = below_least 0 next h; passed = λ j l. absurd (omega arith) }

  module _ (pids : List ℕ) (m count k : ℕ) (a : AreDrawn used pids m count k) where
    pub one_passed : is_among k used ≡ true → AreDrawn used pids m count (k + 1)
    one_passed h =
        let d = apart m k h in
        let l = a.left in
        record { drawn = a.drawn; few = a.few; left = omega arith; passed = λ j x. let y = a.passed j x in omega arith }

    pub one_drawn : is_among k used ≡ false → m ≢ count → AreDrawn used (pids ++ k ∷ []) (m + 1) count (k + 1)
    one_drawn f d =
        let e : k ≡ unused used m = next_free m k f a.left a.passed in
        let rise : unused used m < unused used (m + 1) = unused-rises used m (m + 1) (omega arith) in
        let l = a.few in
        record {
          drawn = ap (λ (x : List ℕ). x ++ k ∷ []) a.drawn ∙ ap (λ (x : ℕ). fresh_pids used m ++ x ∷ []) e ∙ sym (fresh_pids-more used m);
          few = omega arith;
          left = omega arith;
          passed = λ j x. passed_by j x (cases_lt j m);
        }
      where
        passed_by : (j : ℕ) → j < m + 1 → (j < m) ⊎ (m ≤ j) → unused used j < k + 1
        passed_by j x (inl y) = let z = a.passed j y in omega arith
        passed_by j x (inr y) =
            let e : k ≡ unused used m = next_free m k f a.left a.passed in
            let s : unused used j ≡ unused used m = ap (unused used) (omega arith) in
            omega arith

pub all_drawn : (used pids : List ℕ) (m count k : ℕ) → AreDrawn used pids m count k → count ≤ m → pids ≡ fresh_pids used count
all_drawn used pids m count k a h = let x = a.few in a.drawn ∙ ap (fresh_pids used) (omega arith)

-- ---- places

-- the pids in use rise, where those of the slots do
pub rising-in_use : {P : Type 0} (ss : List (TableSlot P)) → AreRisingPids (slot_pids ss) → AreRisingPids (pids_in_use (table_of ss))
rising-in_use ss r = rising-listing (λ s. s.pid) (λ s. listed_place s.page) ss r

-- and so do those that the log has something of
pub rising-logged : {P : Type 0} (ss : List (TableSlot P)) → AreRisingPids (slot_pids ss) → AreRisingPids (keys_of (table_of ss).logged)
rising-logged ss r = rising-listing (λ s. s.pid) (λ s. listed_state (log_state s.logged)) ss r

module _ {P : Type 0} where
  pub with_rooms-push : (t : Mapping P) (pids : List ℕ) (k : ℕ) → with_rooms t (pids ++ k ∷ []) ≡ with_room (with_rooms t pids) k
  with_rooms-push t [] k = refl
  with_rooms-push t (n ∷ pids) k = with_rooms-push (with_room t n) pids k

  rooms_kept : (t : Mapping P) (pids : List ℕ) (q : ℕ) → is_among q (pids_in_use t) ≡ true → is_among q (pids_in_use (with_rooms t pids)) ≡ true
  rooms_kept t [] q h = h
  rooms_kept t (k ∷ pids) q h = rooms_kept (with_room t k) pids q (among_kept t k q h)

  rooms_made : (t : Mapping P) (pids : List ℕ) (m : ℕ) → m < length pids → is_among (get_or pids m 0) (pids_in_use (with_rooms t pids)) ≡ true
  rooms_made t [] m l = absurd (omega arith)
  rooms_made t (k ∷ pids) zero l = rooms_kept (with_room t k) pids k (among_made t k)
  rooms_made t (k ∷ pids) (suc m) l = rooms_made (with_room t k) pids m (omega arith)

  module _ (t : Mapping P) (rising : AreRisingPids (pids_in_use t)) (n : ℕ) where
    abbrev used : List ℕ
    used = pids_in_use t

    abbrev new : Mapping P
    new = with_rooms t (fresh_pids used (n + 1))

    drawn_in_use : (j : ℕ) → j < n + 1 → is_among (unused used j) (pids_in_use new) ≡ true
    drawn_in_use j l =
        let at : get_or (fresh_pids used (n + 1)) j 0 ≡ unused used j = get_or-map-range_with_len (unused used) 0 (n + 1) j j 0 l (omega arith) in
        let x : length (fresh_pids used (n + 1)) ≡ n + 1 = length-map-range_with_len (unused used) 0 (n + 1) in
        subst (λ (k : ℕ). is_among k (pids_in_use new) ≡ true) at (rooms_made t (fresh_pids used (n + 1)) j (omega arith))

    in_use_by : (b : Bool) (q : ℕ) → is_among q used ≡ b → q ≤ unused used n → is_among q (pids_in_use new) ≡ true
    in_use_by true q e l = rooms_kept t (fresh_pids used (n + 1)) q e
    in_use_by false q e l = free_by (cases_lt q (unused used n))
      where
        free_by : (q < unused used n) ⊎ (unused used n ≤ q) → is_among q (pids_in_use new) ≡ true
        free_by (inl h) =
            let at = unused-leaves_none used n q rising e h in
            let x = at.1 in
            subst (λ (k : ℕ). is_among k (pids_in_use new) ≡ true) (sym at.2) (drawn_in_use at.0 (omega arith))
        free_by (inr h) = let s : unused used n ≡ q = omega arith in subst (λ (k : ℕ). is_among k (pids_in_use new) ≡ true) s (drawn_in_use n (omega arith))

    -- up to the last allocated pid, no number is free
    pub fresh_in_use : (m : ℕ) → m ≤ unused used n + 1 → AreInUseBelow new m
    fresh_in_use m l q h = in_use_by (is_among q used) q refl (omega arith)

-- ---- slots

module _ {P : Type 0} (ss ts : List (TableSlot P)) (n count : ℕ) (pids : List ℕ) (a : AreSlots ss n) (r : AreRisingPids (slot_pids ts)) (e : table_of ts ≡ with_rooms (table_of ss) pids) where
  abbrev held : List ℕ
  held = pids_in_use (table_of ss)

  -- pids in use stay in use
  pub slots_kept : AreSlots ts n
  slots_kept = record {
    rising = r;
    in_use = subst (λ (t : Mapping P). AreInUseBelow t n) (sym e) (λ q l. rooms_kept (table_of ss) pids q (a.in_use q l));
  }

  -- up to the last allocated pid, each number is in use
  pub slots_filled : pids ≡ fresh_pids held count → 0 < count → (last next : ℕ) → last ≡ get_or pids (count - 1) last → next ≤ last + 1 → AreSlots ts next
  slots_filled f h last next at l =
      let is_last : last ≡ unused held (count - 1) =
      at ∙ ap (λ (x : List ℕ). get_or x (count - 1) last) f ∙ get_or-map-range_with_len (unused held) 0 count (count - 1) (count - 1) last (omega arith) (omega arith) in
      let more : count ≡ (count - 1) + 1 = omega arith in
      let drawn : table_of ts ≡ with_rooms (table_of ss) (fresh_pids held ((count - 1) + 1)) =
      e ∙ ap (with_rooms (table_of ss)) (f ∙ ap (fresh_pids held) more) in
      record {
        rising = r;
        in_use = subst (λ (t : Mapping P). AreInUseBelow t next) (sym drawn) (fresh_in_use (table_of ss) (rising-in_use ss a.rising) (count - 1) next (omega arith));
      }
