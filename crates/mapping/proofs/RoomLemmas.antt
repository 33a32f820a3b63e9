-- The table that slots represent after a pid gets a place.
use Rattle.std.specs.Prelude.{◌≡◌, ℕ, true, List, set, get_or, Option, Some, None, is_some, Result, Ok, Err, OnOk, OnErr}
use Rattle.std.proofs.Common.{refl, sym, ap, ◌∙◌, arith, subst}
use Rattle.std.specs.List.{insert}
use Rattle.std.proofs.lemmas.List.{set-get_or}
use Rattle.mapping.specs.Proper.{AreRisingPids}
use Rattle.mapping.specs.Tree.Logged.{No}
use Rattle.mapping.specs.LogState.{log_state}
use Rattle.mapping.specs.Table.{Mapping, place_of, room_by, with_room}
use Rattle.mapping.specs.Slots.{slot_pids, listed_place, table_of, StandsAt, GoesTo, AreInUseBelow, AreSlots}
use Rattle.mapping.specs.declared.slots.TablePlace.TheVariants.{Vacant}
use Rattle.mapping.specs.declared.slots.TableSlot.{TableSlot}
use Rattle.mapping.proofs.InUse.{in_use-with_place}
use Rattle.mapping.proofs.Listing.{rising-insert}
use Rattle.mapping.proofs.TableSlots.{slot_here, not_vacant, place-slot, place-gap, with_place-gap, page_changed}

room_by_some : {P : Type 0} (o : Option (Option P)) (t : Mapping P) (k : ℕ) → is_some o ≡ true → room_by o t k ≡ t
room_by_some None t k h = absurd (cc)
room_by_some (Some p) t k h = refl

-- these slots have the table's places, and one for the pid
abbrev pub HaveRoom : {P : Type 0} → List (TableSlot P) → List (TableSlot P) → ℕ → Type 0
HaveRoom new old k = AreRisingPids (slot_pids new) × (table_of new ≡ with_room (table_of old) k)

module _ {P : Type 0} (ss : List (TableSlot P)) (r : AreRisingPids (slot_pids ss)) (i k : ℕ) where
  all_below_zero : AreSlots ss 0
  all_below_zero = record { rising = r; in_use = λ n l. absurd (omega arith) }

  -- a vacant slot gets a place
  pub room_vacant : (s t : TableSlot P) → StandsAt (slot_pids ss) k i → s ≡ get_or ss i s → s.page ≡ Vacant → t.pid ≡ s.pid → listed_place t.page ≡ Some None → t.logged ≡ s.logged → HaveRoom (set ss i t) ss k
  room_vacant s t stands read v e f g =
      let both = page_changed ss 0 all_below_zero i k s stands read t None e f g in
      let none : place_of (table_of ss) k ≡ None = place-slot ss i k s r (slot_here ss i k s stands read) ∙ ap listed_place v in
      (both.0.rising, both.1 ∙ ap (λ (o : Option (Option P)). room_by o (table_of ss) k) (sym none))

  -- the pid has a place
  pub room_kept : (s : TableSlot P) → StandsAt (slot_pids ss) k i → s ≡ get_or ss i s → (s.page ≡ Vacant → ⊥) → HaveRoom (set ss i s) ss k
  room_kept s stands read v =
      let some : is_some (place_of (table_of ss) k) ≡ true = ap is_some (place-slot ss i k s r (slot_here ss i k s stands read)) ∙ not_vacant s.page v in
      let same : set ss i s ≡ ss = ap (λ (x : TableSlot P). set ss i x) read ∙ set-get_or ss i s in
      subst (λ (x : List (TableSlot P)). HaveRoom x ss k) (sym same) (r, sym (room_by_some (place_of (table_of ss) k) (table_of ss) k some))

  -- a slot comes in for the pid
  pub room_new : (t : TableSlot P) → GoesTo (slot_pids ss) k i → t.pid ≡ k → listed_place t.page ≡ Some None → log_state t.logged ≡ No → HaveRoom (insert ss i t) ss k
  room_new t goes e f g =
      let at : GoesTo (slot_pids ss) t.pid i = subst (λ (n : ℕ). GoesTo (slot_pids ss) n i) (sym e) goes in
      let none : place_of (table_of ss) k ≡ None = place-gap ss i k goes in
      (rising-insert (λ s. s.pid) ss i t r at, with_place-gap ss i k goes t None e f g ∙ ap (λ (o : Option (Option P)). room_by o (table_of ss) k) (sym none))

-- ---- whatever the answer

in_use_by : {P : Type 0} (o : Option (Option P)) (t : Mapping P) (k n : ℕ) → AreInUseBelow t n → AreInUseBelow (room_by o t k) n
in_use_by None t k n h = in_use-with_place t k None n h
in_use_by (Some p) t k n h = h

module _ {P T E : Type 0} (ss ts : List (TableSlot P)) where
  pub slots_by : (r : Result T E) (n k : ℕ) → AreSlots ss n → AreRisingPids (slot_pids ts) → OnOk r (table_of ts ≡ with_room (table_of ss) k) → OnErr r (ts ≡ ss) → AreSlots ts n
  slots_by (Ok x) n k a rising ok err = record {
    rising = rising;
    in_use = subst (λ (t : Mapping P). AreInUseBelow t n) (sym ok) (in_use_by (place_of (table_of ss) k) (table_of ss) k n a.in_use);
  }
  slots_by (Err e) n k a rising ok err = subst (λ (x : List (TableSlot P)). AreSlots x n) (sym err) a

  pub table_kept : (r : Result T E) (t : Mapping P) → table_of ss ≡ t → OnErr r (ts ≡ ss) → OnErr r (table_of ts ≡ t)
  table_kept (Ok x) t e err = tt
  table_kept (Err x) t e err = ap table_of err ∙ e
